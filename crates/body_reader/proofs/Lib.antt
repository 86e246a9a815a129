pub mod Pieces
pub mod Forms
pub mod Marks
pub mod Single
pub mod Lists
pub mod Collected
pub mod Bodies
pub mod Fields
