pub mod Hash
pub mod Keys
pub mod Known
pub mod Spans
