pub mod Texts
pub mod Reading
pub mod Unique
pub mod Maps
