pub mod IndirectJump
