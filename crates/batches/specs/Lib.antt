pub mod Batch
pub mod Separate
pub mod Passed
pub mod Trials
