pub mod Readings
pub mod Answers
pub mod Branches
pub mod Chains
pub mod Made
