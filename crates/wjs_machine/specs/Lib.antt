pub mod Flushing
pub mod Runs
