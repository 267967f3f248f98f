pub mod Places
pub mod Reach
pub mod Explore
pub mod Samples
pub mod Proved
