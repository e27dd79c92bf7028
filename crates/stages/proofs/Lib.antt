pub mod Spaces
pub mod Routines
