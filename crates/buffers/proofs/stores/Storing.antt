-- Laws of storing a list over another, element by element.
use Prim.Native.Nat.{ℕ, suc, ◌+◌, ◌<◌, ◌≤◌}
use mathlib.Core.Path.{◌≡◌, refl, sym, ap, ◌∙◌}
use mathlib.Core.List.{List, append-nil}
use native.Mathlib.Omega.{arith}
use native.Mathlib.Nat.{add-zero, le_of_eq}
use lib.ListN.{length, get_or, set, drop, length-set, drop_of_length-le}
use lib.Seq.{sets, drop-cons}
pub use Rattle.spec.proofs.Refusals.{store_front}

-- i elements of t are stored over out₀ from `at` on; storing the rest gives the whole
pub record Stored {X : Type 0} (out₀ : List X) (at : ℕ) (t : List X) (i : ℕ) (out : List X) : Type 0 where
  pub whole : sets out (at + i) (drop i t) ≡ sets out₀ at t
  pub within : i ≤ length t
  pub kept : length out ≡ length out₀

module _ {X : Type 0} (out₀ : List X) (at : ℕ) (t : List X) where
  pub store_none : Stored out₀ at t 0 out₀
  store_none = record { whole = rw add-zero; within = omega arith; kept = refl }

  module _ (i : ℕ) (out : List X) (s : Stored out₀ at t i out) where
    pub store_more : i < length t → (d x : X) → x ≡ get_or t i d → Stored out₀ at t (i + 1) (set out (at + i) x)
    store_more h d x e =
        let n : i + 1 ≡ suc i = omega arith in
        let k : at + suc i ≡ suc (at + i) = omega arith in
        let w : sets out (at + i) (drop i t) ≡ sets (set out (at + i) x) (at + (i + 1)) (drop (i + 1) t) = rw (n, k, e, drop-cons t i d h) in
        record { whole = sym w ∙ s.whole; within = omega arith; kept = length-set out (at + i) x ∙ s.kept }

    pub store_done : length t ≤ i → out ≡ sets out₀ at t
    store_done h = sym (ap (sets out (at + i)) (drop_of_length-le t h)) ∙ s.whole

-- stored over the whole list
pub store_all : (out t : List ℕ) → length out ≡ length t → sets out 0 t ≡ t
store_all out t e = store_front out t (omega arith) ∙ rw (drop_of_length-le out (le_of_eq e), append-nil)
