pub mod Callees
pub mod Making
pub mod Leaving
pub mod Standing
pub mod TwoObjects
