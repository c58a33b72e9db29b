pub mod Restored
pub mod RestoreLaws
