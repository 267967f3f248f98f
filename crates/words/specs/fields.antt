pub mod Truncation
pub mod Strays
pub mod Guests
