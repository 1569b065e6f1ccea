pub mod Check
pub mod Store
pub mod Sound
pub mod Covers
pub mod Touched
