pub mod NameLemmas
pub mod NameCounts
