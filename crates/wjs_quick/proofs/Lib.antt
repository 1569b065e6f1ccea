pub mod Coming
pub mod Operations
pub mod MemberLines
pub mod Entering
