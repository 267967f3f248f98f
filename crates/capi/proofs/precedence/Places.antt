-- The place of the answer has 32 bits.
use Prim.Native.Nat.{ℕ, ◌^◌, ◌<◌}
use mathlib.Core.Path.{◌≡◌, sym, subst}
use mathlib.Core.List.{List}
use native.Mathlib.Omega.{arith}
use Rattle.policy_spec.specs.precedence.Precedence.{PrecedenceResult, make_of}
use Rattle.policy_spec.proofs.precedence.Policies.{place_most}

pub narrow_made : (ps : List ℕ) (room : ℕ) (m : PrecedenceResult) → m ≡ make_of ps room → m.answer.place < 2 ^ 32
narrow_made ps room m e = subst (λ (x : PrecedenceResult). x.answer.place < 2 ^ 32) (sym e) (omega (arith, place_most ps room))
