pub mod Carried
pub mod Errors
pub mod Places
pub mod Named
pub mod Leaving
