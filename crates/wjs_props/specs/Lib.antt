pub mod Spelled
pub mod Listing
pub mod Visits
pub mod Several
