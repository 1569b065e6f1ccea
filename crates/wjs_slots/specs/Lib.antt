pub mod Near
pub mod Least
pub mod Several
