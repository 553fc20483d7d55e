pub mod Forest
pub mod Regions
