pub mod Scripts
pub mod Fronts
