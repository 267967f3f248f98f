pub mod Packing
pub mod Guests
pub mod fields
