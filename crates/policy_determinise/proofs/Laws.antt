-- Laws of the functions, one for each return.
use Rattle.std.proofs.Common.{ℕ, suc, ◌+◌, ◌*◌, ◌%◌, ◌^◌, ◌<◌, ◌≤◌, ◌≡◌, refl, sym, ap, ◌∙◌, Bool, true, false, ◌&&◌, not, Option, Some, None, MatchOption, List, [], ◌∷◌, length, get_or, bit_or, eqb, ltb, arith}
use Rattle.std.specs.Int.Bits.{or_zero_r}
use Rattle.std.specs.Int.NonZero.{non_zero_u16_get}
use Rattle.std.specs.declared.num.NonZeroU16.{NonZeroU16}
use Rattle.std.specs.List.{fold}
use mathlib.Core.Bool.{and_assoc, and-true}
use native.Mathlib.Nat.{mod-eq_of_lt}
use lib.Pow.{pow-lt}
use borrow.Author.Tests.{lt-ltb}
use Rattle.types.specs.declared.Refusal.TheVariants.{BadDrawing}
use Rattle.types.specs.Names.{events, most_states, refusal}
use Rattle.spec.specs.Policies.{states_right}
use Rattle.policy_spec.specs.maps.Maps.{bit}
use Rattle.policy_spec.specs.reachability.Reach.{Made, made_with}
use Rattle.policy_spec.specs.reachability.Worklists.{Worklist, node_number, Explored, written_of, written_table}
use Rattle.policy_spec.proofs.reachability.Explore.{written_made, written_table_lem}
use Rattle.policy_determinise.specs.Drawings.{Drawing, drawing_of, union_of, set_after, maps_right, drawing_right, determinise_of, determinise_table}
use Rattle.policy_determinise.proofs.Runs.{fit_of, arrows}

pub below_is : (m s : ℕ) → s ≤ most_states → ltb m ((1 * 2 ^ s) % 2 ^ 32) ≡ ltb m (2 ^ s)
below_is m s h = let o : 1 * 2 ^ s ≡ 2 ^ s = omega arith in rw o (ap (ltb m) (mod-eq_of_lt (pow-lt {i = s} {j = 32} (omega arith))))

pub union_start : (ms : List ℕ) (x n : ℕ) → 0 ≡ union_of ms x n 0
unfolding union_of
union_start ms x n = refl

-- the union with the successors of one more state, which is in the set or not
module _ (ms : List ℕ) (x n k set : ℕ) (h : n < events) (e : set ≡ union_of ms x n k) where
  pub union_with : bit x k ≡ true → bit_or set (get_or ms (events * k + n) 0) ≡ union_of ms x n (k + 1)
  unfolding union_of
  union_with t = let s : k + 1 ≡ suc k = omega arith in rw (s, lt-ltb n events h, t, e)

  pub union_without : bit x k ≡ false → set ≡ union_of ms x n (k + 1)
  unfolding union_of
  union_without t = let s : k + 1 ≡ suc k = omega arith in rw (s, t, e, or_zero_r)

-- what `fold` collects
pub maps_right_folded : (s : ℕ) (b : Bool) (ms : List ℕ) → fold (λ c m. c && ltb m (2 ^ s)) b ms ≡ (b && maps_right s ms)
maps_right_folded s b [] = sym (and-true b)
maps_right_folded s b (m ∷ ms) = maps_right_folded s (b && ltb m (2 ^ s)) ms ∙ and_assoc b (ltb m (2 ^ s)) (maps_right s ms)

-- a set as a node
pub node_is : (r : Option NonZeroU16) (s t : ℕ) → MatchOption r (s ≡ 0) (λ x. non_zero_u16_get x ≡ s) → s ≡ t → node_number r ≡ t
node_is None s t h e = sym h ∙ e
node_is (Some x) s t h e = h ∙ e

module _ (s q : ℕ) (ms : List ℕ) where
  pub states_wrong_lem : states_right s ≡ false → false ≡ drawing_right (drawing_of s q ms)
  unfolding drawing_right
  states_wrong_lem e = rw e

  pub states_right_lem : (b m : Bool) → states_right s ≡ true → b ≡ ltb q (2 ^ s) → m ≡ maps_right s ms
      → (((not (eqb q 0) && eqb (length ms) (events * s)) && b) && m) ≡ drawing_right (drawing_of s q ms)
  unfolding drawing_right
  states_right_lem b m t e f = rw (t, e, f) (and_assoc (not (eqb q 0) && eqb (length ms) (events * s)) (ltb q (2 ^ s)) (maps_right s ms))

-- ---- making

module _ (d : Drawing) (t : List ℕ) where
  -- what is answered and written
  abbrev pub Makes : Made → List ℕ → Type 0
  Makes made t' = record { made : made ≡ determinise_of d (length t); table : t' ≡ determinise_table d t }

  pub bad_drawing : drawing_right d ≡ false → Makes (made_with (refusal BadDrawing 0) 0) t
  unfolding determinise_of determinise_table
  bad_drawing e = rw e (record { made = refl; table = refl })

  pub makes : (t' : List ℕ) (made : Made) (f : Worklist) → drawing_right d ≡ true → Explored (set_after d) d.starts f → made ≡ written_of f (length t) → t' ≡ written_table f t → Makes made t'
  unfolding determinise_of determinise_table
  makes t' made f e x p q =
      let ok = arrows d (fit_of d e) in
      rw e (record { made = p ∙ written_made (set_after d) d.starts ok f x (length t); table = q ∙ written_table_lem (set_after d) d.starts ok f x t })
