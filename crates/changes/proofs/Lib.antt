pub mod Pauses
pub mod Runs
pub mod Before
pub mod OldOrder
pub mod Samples
pub mod Proved
