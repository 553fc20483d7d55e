pub mod SearchLaws
pub mod GuidedLaws
pub mod LabelAllLaws
pub mod LabelImageLaws
