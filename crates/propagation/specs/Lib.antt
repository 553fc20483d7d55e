pub mod RowSet
pub mod Propagation
pub mod HandOver
