pub mod Bodies
pub mod Labels
pub mod ForIns
pub mod Rounds
