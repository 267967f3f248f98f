-- The law of GOX: its second word has the last address, computed from the one after it.
use mathlib.Core.Path.{◌≡◌}
use mathlib.Core.Bool.{Bool, ◌&&◌}
use Prim.Native.Nat.{ℕ, ◌-◌}
use lib.Dec.{ltb, leb, eqb}
use Rattle.types.specs.declared.Layout.{Layout}
use Rattle.types.specs.declared.Instr.TheVariants.{GOX}
use Rattle.types.specs.Names.{bundle_shift, guest_registers, hidden, top_condition, command}
use Rattle.spec.specs.Words.{a_of, b_of, c_of, pack_of}
use Rattle.spec.specs.Commands.{word_of}
use Rattle.spec.specs.Bundles.{address_of, shape_of, valid, is_bundle}

pub gox_is : (l : Layout) (n w x y z d a b c g : ℕ) → d ≡ a_of w → a ≡ a_of z → b ≡ b_of z → c ≡ c_of z → g ≡ address_of l n → (p q s t : Bool) → p ≡ eqb w (pack_of command.shl hidden d 0 0 bundle_shift)
    → q ≡ eqb x (pack_of command.andi hidden hidden 0 0 (g - 1)) → s ≡ eqb y (pack_of command.ori hidden hidden 0 0 l.base) → t ≡ eqb z (pack_of command.goxr hidden a b c 0)
    → (ltb d guest_registers && ltb a guest_registers && ltb b guest_registers && leb c top_condition && p && q && s && t) ≡ is_bundle l n (GOX (a_of w) (a_of z) (b_of z) (c_of z)) w x y z
unfolding is_bundle valid shape_of word_of
gox_is l n w x y z d a b c g ed ea eb ec eg p q s t ep eq es et = rw (ep, eq, es, et, eg, ed, ea, eb, ec)
