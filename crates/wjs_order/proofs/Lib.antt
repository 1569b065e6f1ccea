pub mod Falling
pub mod Counting
pub mod Stepping
pub mod Taking
pub mod Showing
pub mod Lowering
pub mod Moving
pub mod Numbering
