pub mod Entries
pub mod Totals
pub mod Turns
pub mod Lent
