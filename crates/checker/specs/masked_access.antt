pub mod MaskedAccess
