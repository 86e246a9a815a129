pub mod Listening
pub mod Shown
pub mod Steps
pub mod Answering
pub mod Outsides
pub mod Brings
pub mod Turning
pub mod OutsideSteps
