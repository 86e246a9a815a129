-- Laws of the definitions, for those who keep a journal.
pub mod BirthLaws
pub mod AllowedLaws
pub mod ToldLaws
pub mod LifeLaws
pub mod KeepingLaws
pub mod CarryLaws
