pub mod LineLaws
pub mod ListJobLaws
