pub mod Octets
pub mod Boxed
pub mod EachKind
pub mod SectionsSeen
