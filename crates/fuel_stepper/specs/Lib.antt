pub mod First
pub mod Stages
pub mod Life
pub mod laws
