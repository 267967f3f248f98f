pub mod Loading
pub mod Claims
pub mod Proved
