pub mod Entry
pub mod Openings
