pub mod Tray
pub mod Sample
pub mod Trial
pub mod Proved
pub mod engine
