pub mod Mail
pub mod Pick
