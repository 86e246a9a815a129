pub mod Values
pub mod Accepted
pub mod OwnFunctions
pub mod Memories
pub mod SegmentsInside
pub mod SameTypes
pub mod Refusals
