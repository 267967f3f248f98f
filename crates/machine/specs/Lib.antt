pub mod run_loop
pub mod tiers
