pub mod Bits
pub mod Division
pub mod Laws
pub mod Rows
