pub mod Causes
pub mod Unsigned
pub mod Signed
pub mod Shapes
pub mod Answering
