pub mod Fours
pub mod shapes
pub mod single
pub mod masked_access
pub mod indirect_jump
pub mod event
