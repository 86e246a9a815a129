pub mod Marks
pub mod Writes
