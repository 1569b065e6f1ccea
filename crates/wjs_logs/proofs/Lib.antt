pub mod Knowing
mod Tellings
mod Verdicts
