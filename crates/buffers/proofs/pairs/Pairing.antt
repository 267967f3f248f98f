-- Writing a pair cell by cell, and an order's value.
use Prim.Native.Nat.{ℕ, ◌+◌, ◌*◌, ◌<◌, ◌≤◌}
use mathlib.Core.Path.{◌≡◌, sym}
use mathlib.Core.List.{List}
use native.Mathlib.Omega.{arith}
use native.Mathlib.Nat.{min-eq_left, min-eq_right}
use lib.ListN.{get_or, set}
use Rattle.spec.specs.Layouts.{limited}
use Rattle.spec.specs.Machines.{with_pair}

pub paired : (log log₁ log₂ : List ℕ) (n v x : ℕ) → log₁ ≡ set log (2 * n) v → log₂ ≡ set log₁ (2 * n + 1) x → log₂ ≡ with_pair log n v x
paired log log₁ log₂ n v x p q = rw (q, p)

-- the smaller of a value and its ceiling
module _ (caps : List ℕ) (v x most : ℕ) (e : most ≡ get_or caps v 0) where
  pub below : x < most → x ≡ limited caps v x
  below h = rw (← e) (sym (min-eq_left (omega arith)))

  pub above : most ≤ x → most ≡ limited caps v x
  above h = rw (← e) (sym (min-eq_right h))
