pub mod ConfigLaws
pub mod LocalLaws
pub mod SlotLaws
