pub mod Pairs
pub mod Maps
pub mod Members
pub mod Signals
pub mod Spread
pub mod Next
