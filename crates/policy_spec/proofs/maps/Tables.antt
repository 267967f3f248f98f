-- Tables by index: filled from the start, and with every entry right.
use Prim.Native.Nat.{ℕ, zero, suc, ◌+◌, ◌<◌}
use mathlib.Core.Path.{◌≡◌, refl, ap, ap₂, ◌∙◌}
use mathlib.Core.Bool.{Bool, true, ◌&&◌}
use mathlib.Core.List.{List, [], ◌∷◌, ◌++◌}
use native.Mathlib.Omega.{arith}
use lib.ListN.{length, set, drop}
use Rattle.spec.specs.Policies.{entry_right, entries_right}
use Rattle.policy_spec.specs.maps.Maps.{build}
use Rattle.policy_spec.proofs.maps.Maps.{build_more}
use Rattle.spec.proofs.Entries.{entries_append}

pub fill_none : (f : ℕ → ℕ) (t : List ℕ) → t ≡ build f 0 ++ drop 0 t
unfolding build
fill_none f t = refl

pub fill_more : (f : ℕ → ℕ) (t₀ t : List ℕ) (i r : ℕ) → t ≡ build f i ++ drop i t₀ → i < length t₀ → r ≡ f i → set t i r ≡ build f (i + 1) ++ drop (i + 1) t₀
fill_more f t₀ t i r e h g = rw (e, g) (build_more f t₀ i h)

pub entries_build : (s : ℕ) (f : ℕ → ℕ) (n : ℕ) → ((i : ℕ) → i < n → entry_right s (f i) ≡ true) → entries_right s (build f n) ≡ true
unfolding build
entries_build s f zero g = refl
entries_build s f (suc n) g =
    entries_append s (build f n) (f n ∷ [])
    ∙ ap₂ ◌&&◌ (entries_build s f n (λ i h. g i (omega arith))) (ap (λ (x : Bool). x && true) (g n (omega arith)))
