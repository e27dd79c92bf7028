pub mod Row
pub mod Found
