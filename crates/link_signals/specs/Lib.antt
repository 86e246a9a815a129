pub mod Links
pub mod Fall
pub mod Spread
