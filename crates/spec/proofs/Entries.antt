-- A policy's table is right if both of its parts are.
use Prim.Native.Nat.{ℕ}
use mathlib.Core.Path.{◌≡◌, refl, sym, ap, ◌∙◌}
use mathlib.Core.Bool.{Bool, ◌&&◌, and_assoc}
use mathlib.Core.List.{List, [], ◌∷◌, ◌++◌}
use Rattle.spec.specs.Policies.{entry_right, entries_right}

pub entries_append : (s : ℕ) (a b : List ℕ) → entries_right s (a ++ b) ≡ (entries_right s a && entries_right s b)
entries_append s [] b = refl
entries_append s (x ∷ a) b = ap (λ (r : Bool). entry_right s x && r) (entries_append s a b) ∙ sym (and_assoc (entry_right s x) (entries_right s a) (entries_right s b))
