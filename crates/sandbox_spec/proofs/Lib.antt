pub mod Loading
pub mod Proved
