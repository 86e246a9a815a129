pub mod Shortest
pub mod Writing
pub mod Lines
pub mod SectionParts
