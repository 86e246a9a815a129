pub mod Integers
pub mod Names
pub mod Operations
pub mod Table
pub mod Trap
