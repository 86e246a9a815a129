pub mod Examples
pub mod Covering
pub mod Rules
pub mod Locals
pub mod Frames
pub mod Functions
pub mod Levels
pub mod Modules
