pub mod AllTrials
pub mod Scan
pub mod Numbers
pub mod Looked
