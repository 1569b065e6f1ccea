-- What a read and a write leave, and what they count.
pub mod Faults
pub mod Taking
pub mod Stops
pub mod Calls
pub mod Memory
pub mod Standard
pub mod Streams
