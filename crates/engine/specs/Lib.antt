pub mod Spread
pub mod Leaves
