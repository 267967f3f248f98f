pub mod maps
pub mod precedence
pub mod reachability
pub mod tables
