pub mod Tables
pub mod TableLaws
pub mod Surveys
pub mod SurveyLaws
