pub mod Deeds
pub mod Sequences
pub mod Variables
pub mod News
pub mod References
pub mod Operands
