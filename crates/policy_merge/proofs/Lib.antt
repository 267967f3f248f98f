pub mod Pairs
pub mod Rename
pub mod Swaps
pub mod Laws
pub mod Samples
pub mod Proved
