pub mod Slots
pub mod Held
pub mod Steps
pub mod Fits
pub mod Nets
pub mod Replies
