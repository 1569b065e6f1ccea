pub mod Powers
pub mod Quotients
pub mod Ranges
pub mod ReadBack
pub mod Runs
pub mod Texts
pub mod Written
