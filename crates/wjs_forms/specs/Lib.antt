pub mod Classes
pub mod Table
pub mod Moves
pub mod States
pub mod Spells
