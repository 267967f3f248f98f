pub mod Tags
pub mod LoopSteps
