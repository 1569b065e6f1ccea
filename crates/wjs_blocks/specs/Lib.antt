pub mod Switches
pub mod Tries
