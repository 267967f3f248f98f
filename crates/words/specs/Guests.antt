-- Re-exports the test that a word names only guest registers.
pub use Rattle.words.specs.fields.Guests.{only_guest_registers}
