pub mod ReadingLaws
pub mod HeadingLaws
pub mod WritingLaws
pub mod RunJobLaws
pub mod JobClaims
