pub mod Commands
pub mod CommandLaws
pub mod NameLaws
pub mod Names
pub mod Reading
pub mod ParsedLaws
