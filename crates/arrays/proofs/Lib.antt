pub mod Records
pub mod Counted
pub mod Tested
pub mod Laid
pub mod Gathering
