pub mod Stacks
pub mod Effects
pub mod Codes
pub mod Goes
pub mod Asks
pub mod Leaving
