pub mod Instance
pub mod Constants
pub mod Segments
