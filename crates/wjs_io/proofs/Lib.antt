-- Lemmas on what a source lost and a sink gained.
pub mod Pieces
pub mod Rising
pub mod Written
