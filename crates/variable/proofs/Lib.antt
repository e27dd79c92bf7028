pub mod Reading
pub mod Measuring
pub mod Writing
