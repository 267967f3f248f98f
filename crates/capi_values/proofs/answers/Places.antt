-- Every answer's place has 32 bits.
use Prim.Native.Nat.{ℕ, ◌^◌, ◌<◌}
use mathlib.Core.Path.{◌≡◌, sym, subst}
use native.Mathlib.Omega.{arith}
use Rattle.types.specs.declared.Answer.{Answer}
use Rattle.spec.proofs.Counts.{Bounded}

pub narrow : {m r : ℕ} (a b : Answer) → a ≡ b → Bounded m r b → m < 2 ^ 32 → a.place < 2 ^ 32
narrow a b e h k = subst (λ (x : Answer). x.place < 2 ^ 32) (sym e) (omega (arith, h.place, k))
