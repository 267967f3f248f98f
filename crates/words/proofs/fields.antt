pub mod Masks
pub mod HiddenRegister
