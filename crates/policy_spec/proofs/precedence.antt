pub mod Laws
pub mod Policies
pub mod Orders
pub mod Unreachable
pub mod Samples
pub mod Proved
