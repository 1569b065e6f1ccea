pub mod Readings
pub mod Answers
pub mod Made
