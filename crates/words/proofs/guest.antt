pub mod RefusalLaws
pub mod Masks
