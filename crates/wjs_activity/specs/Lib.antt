pub mod Unnamed
pub mod Listing
pub mod Exactly
pub mod Noting
pub mod SoFar
pub mod Rounds
pub mod Plays
