pub mod Passed
pub mod Bridge
pub mod Halted
pub mod Steps
pub mod Ends
pub mod TypedParams
pub mod Starts
