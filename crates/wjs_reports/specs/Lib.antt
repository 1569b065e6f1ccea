pub mod Lines
pub mod Thrown
