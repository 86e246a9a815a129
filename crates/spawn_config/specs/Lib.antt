pub mod Spelling
pub mod Held
pub mod Lower
