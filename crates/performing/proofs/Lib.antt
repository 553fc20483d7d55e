pub mod WayLaws
pub mod OnWordsLaws
pub mod BandLaws
pub mod BorderLaws
pub mod StartLaws
pub mod StepRowsLaws
pub mod IdleLaws
