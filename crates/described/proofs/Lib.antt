pub mod Columns
pub mod Placed
