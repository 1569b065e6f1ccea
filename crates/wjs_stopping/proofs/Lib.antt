pub mod Stopping
pub mod Evaluating
