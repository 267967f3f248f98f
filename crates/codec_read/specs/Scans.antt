-- Finds the first jump past a routine's end.
use Rattle.std.specs.Prelude.{ℕ, ◌+◌, cond, List, [], ◌∷◌}
use Rattle.spec.specs.Words.{bad_landing}

-- the index of the first GOIF that jumps past n instructions, or n if there is none; the first word has index i
unfoldable pub first_past : ℕ → List ℕ → ℕ → ℕ
first_past n [] i = n
first_past n (w ∷ ws) i = cond (bad_landing n w) i (first_past n ws (i + 1))
