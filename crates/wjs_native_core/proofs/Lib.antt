pub mod Showing
pub mod Looking
pub mod Listing
pub mod Applying
pub mod Telling
