pub mod RawSimulation
pub mod Transparent
pub mod Samples
pub mod Proved
