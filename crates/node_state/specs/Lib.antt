pub mod Seats
pub mod Slots
pub mod Held
pub mod Fits
pub mod Streaming
pub mod Changes
pub mod Posts
pub mod Rows
