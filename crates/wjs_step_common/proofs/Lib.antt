pub mod Converting
pub mod Following
pub mod Knowing
pub mod Parts
pub mod Indices
pub mod Extending
pub mod Lengths
