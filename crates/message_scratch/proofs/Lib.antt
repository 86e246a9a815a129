pub mod Slots
pub mod Closings
pub mod Numbers
pub mod Bounds
