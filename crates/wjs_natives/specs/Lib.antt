pub mod Kinds
pub mod Converting
pub mod Cores
