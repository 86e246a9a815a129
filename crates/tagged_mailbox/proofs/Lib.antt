pub mod Tags
pub mod Firsts
pub mod PlaceLemmas
