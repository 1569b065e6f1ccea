pub mod Standing
pub mod Moving
pub mod Fronts
pub mod Parting
pub mod Units
pub mod Folding
