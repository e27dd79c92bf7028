pub mod Masking
pub mod Picked
pub mod Running
pub mod Turns
