pub mod Calls
pub mod Samples
pub mod Proved
