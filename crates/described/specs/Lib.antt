pub mod Told
pub mod Taken
