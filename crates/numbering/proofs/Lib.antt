pub mod SentLaws
pub mod NumberLaws
