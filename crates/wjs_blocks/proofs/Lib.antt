pub mod Cases
pub mod Catching
pub mod Inner
pub mod Standing
pub mod Switching
