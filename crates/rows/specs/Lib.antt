pub mod Front
pub mod Rows
pub mod Lent
