pub mod Kinds
pub mod Readings
pub mod Answers
pub mod Lists
pub mod Made
