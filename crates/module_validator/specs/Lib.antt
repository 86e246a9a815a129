pub mod Host
pub mod Answers
pub mod Order
pub mod Sizes
pub mod Constants
pub mod Calls
pub mod ValidModule
