pub mod RefusalLaws
pub mod Laws
pub mod BundleWords
pub mod Chunks
