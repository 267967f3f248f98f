-- Tests bundles of one command and three NOPs.
use Rattle.std.specs.Prelude.{ℕ, ◌-◌, ◌/◌, Bool, ◌&&◌, ltb, eqb}
use Rattle.types.specs.declared.Layout.{Layout}
use Rattle.types.specs.Names.{bundle_length, command}
use Rattle.spec.specs.Words.{v_of}
use Rattle.spec.specs.Commands.{is_command}
use Rattle.spec.specs.Bundles.{address_of}
use Rattle.words.specs.Guests.{only_guest_registers}

-- whether four words are this command's word and three NOPs
abbrev pub single_words : ℕ → ℕ → ℕ → ℕ → ℕ → Bool
single_words w x y z w' = eqb w w' && eqb x 0 && eqb y 0 && eqb z 0

-- whether four words are a HALT
abbrev pub halt_words : ℕ → ℕ → ℕ → ℕ → Bool
halt_words w x y z = single_words w x y z command.halt

-- whether four words are a command on guest registers and three NOPs
abbrev pub plain_words : ℕ → ℕ → ℕ → ℕ → Bool
plain_words w x y z = is_command w && only_guest_registers w && eqb x 0 && eqb y 0 && eqb z 0

-- the bundle that an address belongs to, and whether it is the first address of one of n
abbrev pub bundle_index : Layout → ℕ → ℕ
bundle_index l v = (v - l.base) / bundle_length

abbrev pub is_bundle_address : Layout → ℕ → ℕ → Bool
is_bundle_address l n v = eqb v (address_of l (bundle_index l v)) && ltb (bundle_index l v) n

-- whether four words, the first of kind GOIF, are a jump to one of n bundles and three NOPs
abbrev pub goif_words : Layout → ℕ → ℕ → ℕ → ℕ → ℕ → Bool
goif_words l n w x y z = is_command w && only_guest_registers w && is_bundle_address l n (v_of w) && eqb x 0 && eqb y 0 && eqb z 0
