pub mod Laws
pub mod Numbered
pub mod Programs
pub mod Numbers
