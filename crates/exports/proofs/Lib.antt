pub mod CountsLaws
pub mod NumbersLaws
pub mod RecordsLaws
pub mod Claims
