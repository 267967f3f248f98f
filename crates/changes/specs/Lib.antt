pub mod Claims
pub mod Sample
pub mod Proved
