pub mod Going
pub mod Pausing
