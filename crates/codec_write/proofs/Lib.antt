pub mod Storing
mod Writing
