pub mod Division
pub mod Pieces
pub mod Inputs
pub mod Laws
