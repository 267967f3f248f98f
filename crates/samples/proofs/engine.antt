pub mod Samples
pub mod Proved
