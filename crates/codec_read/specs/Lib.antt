pub mod Scans
pub mod fast_path
