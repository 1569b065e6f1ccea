mod Deliveries
mod Beginnings
mod Endings
pub mod Scripts
mod Played
mod Attempts
mod Loggings
mod OneDue
