pub mod RowLaws
pub mod Requests
pub mod HostLaws
pub mod FormLaws
