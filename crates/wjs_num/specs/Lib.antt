pub mod Bits
pub mod Digits
pub mod Exact
pub mod Numerals
pub mod Power
pub mod ReadBack
