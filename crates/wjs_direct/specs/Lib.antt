pub mod Rounds
pub mod Literals
pub mod Tries
pub mod Switches
pub mod Visits
