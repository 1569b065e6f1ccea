pub mod Forms
pub mod Around
pub mod Answers
