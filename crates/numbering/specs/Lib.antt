pub mod Sents
pub mod Numbering
