pub mod Precedence
pub mod Results
pub mod Claims
pub mod Proved
