pub mod Alike
mod AlikeOffences
pub mod Faults
pub mod Loaded
mod OneAnswer
