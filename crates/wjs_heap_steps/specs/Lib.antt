pub mod Known
pub mod Worlds
pub mod Visits
pub mod Peeking
pub mod HasRows
pub mod Reads
