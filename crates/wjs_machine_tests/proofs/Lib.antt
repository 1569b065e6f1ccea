pub mod Telling
pub mod Later
pub mod Belonging
pub mod Walked
pub mod Loaded
