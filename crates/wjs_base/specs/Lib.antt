pub mod Codes
pub mod Order
pub mod Range
pub mod Same
pub mod Spelling
pub mod Stacks
pub mod Text
pub mod Unicode
