pub mod Reach
pub mod Readings
pub mod Table
pub mod Steps
pub mod Answers
pub mod Reserved
