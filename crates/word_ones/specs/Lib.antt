pub mod Ones
pub mod Table
