-- Laws of a number's index in a list, and of adding a node.
use Prim.Native.Nat.{ℕ, zero, suc, ◌<◌, ◌≤◌}
use mathlib.Core.Path.{◌≡◌, refl, sym, ap, ◌∙◌}
use mathlib.Core.Bool.{Bool, true, false, ◌||◌, cond}
use mathlib.Core.List.{List, [], ◌∷◌, ◌++◌}
use native.Mathlib.Omega.{arith}
use lib.Dec.{eqb}
use lib.ListN.{length, get_or, length-append}
use borrow.Author.Tests.{ltb-true, ltb-false, eqb-true, eqb-false, eq-eqb}
use Rattle.policy_spec.specs.reachability.Reach.{index_of, known, insert}

pub place_le : (ns : List ℕ) (x : ℕ) → index_of ns x ≤ length ns
place_le [] x = omega arith
place_le (y ∷ ns) x = go (eqb y x) (place_le ns x)
  where
    go : (b : Bool) → index_of ns x ≤ length ns → cond b 0 (suc (index_of ns x)) ≤ suc (length ns)
    go true h = omega arith
    go false h = omega arith

pub place_at : (ns : List ℕ) (x : ℕ) → index_of ns x < length ns → get_or ns (index_of ns x) 0 ≡ x
place_at [] x h = absurd (omega arith)
place_at (y ∷ ns) x h = go (eqb y x) refl h (place_at ns x)
  where
    go : (b : Bool) → eqb y x ≡ b → cond b 0 (suc (index_of ns x)) < suc (length ns) → (index_of ns x < length ns → get_or ns (index_of ns x) 0 ≡ x) → get_or (y ∷ ns) (cond b 0 (suc (index_of ns x))) 0 ≡ x
    go true e l f = eqb-true y x e
    go false e l f = f (omega arith)

-- an element of a list has an index, at most its position
pub place_of : (ns : List ℕ) (i : ℕ) → i < length ns → index_of ns (get_or ns i 0) ≤ i
place_of [] i h = absurd (omega arith)
place_of (y ∷ ns) zero h = rw (eq-eqb y y refl) (omega arith)
place_of (y ∷ ns) (suc i) h = go (eqb y (get_or ns i 0)) (place_of ns i (omega arith))
  where
    go : (b : Bool) → index_of ns (get_or ns i 0) ≤ i → cond b 0 (suc (index_of ns (get_or ns i 0))) ≤ suc i
    go true l = omega arith
    go false l = omega arith

-- appending keeps the indices
pub place_append : (ns ms : List ℕ) (x : ℕ) → index_of ns x < length ns → index_of (ns ++ ms) x ≡ index_of ns x
place_append [] ms x h = absurd (omega arith)
place_append (y ∷ ns) ms x h = go (eqb y x) h (place_append ns ms x)
  where
    go : (b : Bool) → cond b 0 (suc (index_of ns x)) < suc (length ns) → (index_of ns x < length ns → index_of (ns ++ ms) x ≡ index_of ns x)
        → cond b 0 (suc (index_of (ns ++ ms) x)) ≡ cond b 0 (suc (index_of ns x))
    go true l f = refl
    go false l f = ap suc (f (omega arith))

pub place_new : (ns : List ℕ) (x : ℕ) → length ns ≤ index_of ns x → index_of (ns ++ (x ∷ [])) x ≡ length ns
place_new [] x h = rw (eq-eqb x x refl)
place_new (y ∷ ns) x h = go (eqb y x) h (place_new ns x)
  where
    go : (b : Bool) → suc (length ns) ≤ cond b 0 (suc (index_of ns x)) → (length ns ≤ index_of ns x → index_of (ns ++ (x ∷ [])) x ≡ length ns)
        → cond b 0 (suc (index_of (ns ++ (x ∷ [])) x)) ≡ suc (length ns)
    go true l f = absurd (omega arith)
    go false l f = ap suc (f (omega arith))

-- pigeonhole: n + 1 numbers below n are not all different
pub pigeonhole : (n : ℕ) (f : ℕ → ℕ) → ((i : ℕ) → i ≤ n → f i < n) → ((i j : ℕ) → i ≤ n → j ≤ n → f i ≡ f j → i ≡ j) → ⊥
pigeonhole zero f below apart = let h = below 0 (omega arith) in omega arith
pigeonhole (suc n) f below apart = pigeonhole n g g_below g_apart
  where
    top : ℕ
    top = f (suc n)

    -- the last number takes the place of n
    pick : Bool → ℕ → ℕ
    pick b i = cond b top (f i)

    g : ℕ → ℕ
    g i = pick (eqb (f i) n) i

    other : (i : ℕ) → i ≤ n → f i ≡ top → ⊥
    other i h e = let z = apart i (suc n) (omega arith) (omega arith) e in omega arith

    g_below : (i : ℕ) → i ≤ n → g i < n
    g_below i h = go (eqb (f i) n) refl
      where
        go : (b : Bool) → eqb (f i) n ≡ b → pick b i < n
        go true e = last (eqb top n) refl
          where
            last : (c : Bool) → eqb top n ≡ c → top < n
            last true d = absurd (other i h (eqb-true (f i) n e ∙ sym (eqb-true top n d)))
            last false d = omega (arith, below (suc n) (omega arith), eqb-false top n d)
        go false e = omega (arith, below i (omega arith), eqb-false (f i) n e)

    g_apart : (i j : ℕ) → i ≤ n → j ≤ n → g i ≡ g j → i ≡ j
    g_apart i j h k e = go (eqb (f i) n) refl (eqb (f j) n) refl e
      where
        go : (a : Bool) → eqb (f i) n ≡ a → (b : Bool) → eqb (f j) n ≡ b → pick a i ≡ pick b j → i ≡ j
        go true x true y w = apart i j (omega arith) (omega arith) (eqb-true (f i) n x ∙ sym (eqb-true (f j) n y))
        go true x false y w = absurd (other j k (sym w))
        go false x true y w = absurd (other i h w)
        go false x false y w = apart i j (omega arith) (omega arith) w

-- adding a node does nothing for 0 and for a known node
pub data Inserts (ns : List ℕ) (x : ℕ) : List ℕ → Type 0 where
  none : x ≡ 0 → Inserts ns x ns
  again : index_of ns x < length ns → Inserts ns x ns
  anew : (x ≡ 0 → ⊥) → length ns ≤ index_of ns x → Inserts ns x (ns ++ (x ∷ []))

pub inserts : (ns : List ℕ) (x : ℕ) → Inserts ns x (insert ns x)
unfolding insert
inserts ns x = go (eqb x 0) refl (known ns x) refl
  where
    go : (a : Bool) → eqb x 0 ≡ a → (b : Bool) → known ns x ≡ b → Inserts ns x (cond (a || b) ns (ns ++ (x ∷ [])))
    go true e b f = none (eqb-true x 0 e)
    go false e true f = again (ltb-true _ _ f)
    go false e false f = anew (eqb-false x 0 e) (ltb-false _ _ f)

pub insert_none : (ns : List ℕ) → insert ns 0 ≡ ns
unfolding insert
insert_none ns = refl

-- a node that was added is known, unless it is 0
pub reached_known : (ns : List ℕ) (x : ℕ) → (x ≡ 0 → ⊥) → index_of (insert ns x) x < length (insert ns x)
reached_known ns x h = go (insert ns x) (inserts ns x)
  where
    go : (l : List ℕ) → Inserts ns x l → index_of l x < length l
    go l (none e) = absurd (h e)
    go l (again k) = k
    go l (anew z k) = omega (arith, place_new ns x k, length-append ns (x ∷ []))

pub record More (ns l : List ℕ) : Type 0 where
  pub rest : List ℕ
  pub is : l ≡ ns ++ rest

pub insert_more : (ns : List ℕ) (x : ℕ) → More ns (insert ns x)
insert_more ns x = go (insert ns x) (inserts ns x)
  where
    nil : (l : List ℕ) → l ≡ l ++ []
    nil [] = refl
    nil (y ∷ l) = ap (λ (z : List ℕ). y ∷ z) (nil l)

    go : (l : List ℕ) → Inserts ns x l → More ns l
    go l (none e) = record { rest = []; is = nil ns }
    go l (again k) = record { rest = []; is = nil ns }
    go l (anew z k) = record { rest = x ∷ []; is = refl }
