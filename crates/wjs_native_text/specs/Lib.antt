pub mod Receivers
pub mod Limits
pub mod AtOnce
