pub mod Validity
pub mod Ones
