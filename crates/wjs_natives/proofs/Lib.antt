pub mod Tables
pub mod Holding
pub mod Pairs
pub mod Staying
pub mod Waiting
pub mod Running
pub mod Coming
