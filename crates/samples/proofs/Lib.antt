pub mod Tray
pub mod Samples
pub mod Trial
pub mod Proved
