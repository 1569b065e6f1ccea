pub mod Stopping
pub mod Ends
pub mod Waiting
pub mod Evaluating
pub mod Composing
