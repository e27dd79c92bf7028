pub mod Fronts
pub mod Copying
