pub mod Periods
pub mod Pieces
