pub mod StandingBodies
pub mod GlobalVariables
pub mod Filling
pub mod Beginning
pub mod UnitTrees
pub mod Gathering
