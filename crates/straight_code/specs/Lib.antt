pub mod Going
pub mod Loads
