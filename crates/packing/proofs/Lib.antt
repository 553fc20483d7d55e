pub mod BandLaws
pub mod GroupLaws
pub mod LookLaws
pub mod RowsLaws
pub mod WeaveLaws
pub mod WordsLaws
