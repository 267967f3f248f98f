pub mod effects
pub mod program_point
pub mod view
