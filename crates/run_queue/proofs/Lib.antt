pub mod Entries
pub mod Dues
