pub mod Table
pub mod Said
pub mod Grammar
pub mod Found
pub mod Meaning
