pub mod Gluing
pub mod Receiving
pub mod Lengths
pub mod Joining
pub mod Limits
pub mod Interning
pub mod Telling
