pub mod Coming
pub mod Operating
