pub mod RowSetLaws
pub mod GrownLaws
pub mod PropagationLaws
pub mod BeginLaws
pub mod HandOverLaws
pub mod PropagateLaws
