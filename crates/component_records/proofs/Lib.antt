pub mod RecordLaws
pub mod SameLabelLaws
pub mod LeastLaws
pub mod SeenLaws
pub mod NumberedLaws
pub mod RecordBeforeLaws
pub mod RecordedLaws
