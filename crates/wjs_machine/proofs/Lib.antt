pub mod Flushes
pub mod Pending
pub mod Running
pub mod Stepping
pub mod Lasting
