pub mod Measured
pub mod Ready
