pub mod OnesLaws
pub mod TableLaws
