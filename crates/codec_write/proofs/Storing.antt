-- Storing lists one after another: of each element x of a list the list `f x`, and `g` joins them all.
use mathlib.Core.Path.{◌≡◌, ap, ◌∙◌}
use mathlib.Core.List.{List, [], ◌∷◌, ◌++◌}
use Prim.Native.Nat.{ℕ, suc, ◌+◌, ◌≤◌, ◌<◌}
use native.Mathlib.Nat.{add-zero, add-suc, suc-add}
use native.Mathlib.Numerals.{add-one}
use lib.ListN.{length, get_or, drop, set, length-append, drop_of_length-le}
use lib.Seq.{sets as stores, drop-cons}

pub sets-append {ℓ} : {A : Type ℓ} (l : List A) (i : ℕ) (xs ys : List A) → stores l i (xs ++ ys) ≡ stores (stores l i xs) (i + length xs) ys
sets-append l i [] ys = rw add-zero
sets-append l i (x ∷ xs) ys = sets-append (set l i x) (suc i) xs ys ∙ rw (suc-add, add-suc)

module _ (f : ℕ → List ℕ) (g : List ℕ → List ℕ) (nil : g [] ≡ []) (cons : (x : ℕ) (xs : List ℕ) → g (x ∷ xs) ≡ f x ++ g xs) where
  module _ (xs : List ℕ) (i : ℕ) (h : i < length xs) where
    next : g (drop i xs) ≡ f (get_or xs i 0) ++ g (drop (i + 1) xs)
    next = ap g (rw add-one (drop-cons xs i 0 h)) ∙ cons (get_or xs i 0) (drop (i + 1) xs)

    pub each_length : length (g (drop i xs)) ≡ length (f (get_or xs i 0)) + length (g (drop (i + 1) xs))
    each_length = ap length next ∙ length-append (f (get_or xs i 0)) (g (drop (i + 1) xs))

    pub each_more : (out : List ℕ) (to : ℕ)
        → stores out to (g (drop i xs)) ≡ stores (stores out to (f (get_or xs i 0))) (to + length (f (get_or xs i 0))) (g (drop (i + 1) xs))
    each_more out to = rw (next, sets-append)

  pub each_done : (xs : List ℕ) (i : ℕ) → length xs ≤ i → g (drop i xs) ≡ []
  each_done xs i h = ap g (drop_of_length-le xs h) ∙ nil

-- the elements before i are stored, up to index `to`; `out` becomes what the whole makes of `first` from index `at` on
pub record Stored (g : List ℕ → List ℕ) (xs first : List ℕ) (at i to : ℕ) (out : List ℕ) : Type 0 where
  pub end : to + length (g (drop i xs)) ≡ at + length (g xs)
  pub all : stores first at (g xs) ≡ stores out to (g (drop i xs))
