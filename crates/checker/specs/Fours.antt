-- Tests of four words, of a bundle's list.
use Rattle.std.specs.Prelude.{ℕ, Bool, List, get_or}

-- a test of four words, at the four words of a bundle
abbrev pub on_four : (ℕ → ℕ → ℕ → ℕ → Bool) → List ℕ → Bool
on_four test ws = test (get_or ws 0 0) (get_or ws 1 0) (get_or ws 2 0) (get_or ws 3 0)
