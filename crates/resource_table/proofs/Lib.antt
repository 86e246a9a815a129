pub mod Filters
pub mod Rising
pub mod Tables
pub mod Closings
pub mod Numbers
