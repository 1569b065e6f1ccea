pub mod Defaults
pub mod Machines
pub mod Offending
pub mod OneOffence
