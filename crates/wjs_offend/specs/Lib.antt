pub mod Taking
pub mod Offences
