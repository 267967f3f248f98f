pub mod Filling
pub mod Written
pub mod Expanding
