pub mod Lasts
pub mod Items
pub mod Declarations
pub mod Making
pub mod Naming
pub mod Functions
pub mod Programs
pub mod Table
