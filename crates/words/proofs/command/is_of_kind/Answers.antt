use Prim.Native.Nat.{ℕ, ◌<◌}
use mathlib.Core.Path.{◌≡◌, subst, sym, ◌∙◌, ap}
use lib.Dec.{eqb}
use lib.Bits.{bit_and}
use Rattle.types.specs.Names.{command_kinds}
use Rattle.spec.specs.Commands.{limits_of, is_command}
use Rattle.words.specs.fields.Strays.{stray_of}
use Rattle.words.proofs.command.Masks.{clean_is}
use Rattle.words.proofs.command.is_of_kind.Goals as goal

pub returns : goal.returns
returns c = let start = c in
    let w = start.args.w in
    subst (λ (s : ℕ). eqb (bit_and w s) 0 ≡ is_command w) (sym (c.stray_bits.ensures ∙ ap (λ (k : ℕ). stray_of (limits_of k)) (sym start.requires.1)))
    (clean_is w start.ranges.w.fits (subst (λ (k : ℕ). k < command_kinds) (sym start.requires.1) start.requires.0))
