pub mod events
pub mod fetch
pub mod sight
