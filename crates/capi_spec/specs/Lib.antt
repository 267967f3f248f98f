pub mod Numbers
pub mod Hosts
pub mod Claims
pub mod Sample
pub mod Proved
pub mod engine
