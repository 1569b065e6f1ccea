pub mod Entering
pub mod Filling
