pub mod Sample
pub mod Proved
