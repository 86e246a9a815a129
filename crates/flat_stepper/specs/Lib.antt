pub mod Places
pub mod Pauses
pub mod Begun
pub mod Standing
pub mod Nexts
pub mod Targets
pub mod States
pub mod Outcomes
