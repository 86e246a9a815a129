pub mod Letters
pub mod Seen
pub mod Holds
pub mod Takes
pub mod Begins
pub mod Gives
