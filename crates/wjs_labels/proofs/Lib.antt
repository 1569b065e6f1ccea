pub mod Labels
pub mod Walks
pub mod Lists
pub mod Steps
pub mod Loops
