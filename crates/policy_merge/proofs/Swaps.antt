-- Swapping the two policies gives the same merged policy.
use Prim.Native.Nat.{ℕ, ◌*◌, ◌<◌, ◌≤◌, min}
use mathlib.Core.Path.{◌≡◌, refl, sym, ap, ◌∙◌, fun_ext}
use mathlib.Core.Bool.{Bool, true, false, ◌||◌, cond}
use mathlib.Core.List.{List}
use mathlib.Core.Logic.{◌⊎◌, inl, inr}
use native.Mathlib.Omega.{arith}
use lib.Dec.{eqb}
use lib.ListN.{get_or}
use borrow.Author.Tests.{eqb-true, eqb-false, ne_eqb}
use Rattle.types.specs.Names.{most_states, orders, no_arrow}
use Rattle.spec.specs.Policies.{Policy, arrow}
use Rattle.policy_spec.specs.maps.Maps.{build}
use Rattle.policy_spec.specs.reachability.Reach.{states_of, table_of, reach_answer, reach_of, reach_table}
use Rattle.policy_merge.proofs.Rename.{Renames, states_name, table_name}
use Rattle.policy_merge.specs.Pairs.{pair, left, right, both, pair_after, start_pair, side_right, smaller, merge_made, merge_of, merge_table}
use Rattle.policy_merge.specs.Claims.{Swapped, MergeCommutes}
use Rattle.policy_merge.proofs.Pairs.{Side, side_of_lem, arrow_below, Both, neither, arrows, boths, both_pair, pair_after_lem}

-- the number of the swapped pair
swap : ℕ → ℕ
swap x = cond (eqb x 0) 0 (pair (right x) (left x))

abbrev Below : ℕ → Type 0
Below x = x ≤ most_states * most_states

swap_node : (x : ℕ) → (x ≡ 0 → ⊥) → swap x ≡ pair (right x) (left x)
unfolding swap
swap_node x z = rw (ne_eqb x 0 z)

swap_pair : (s t : ℕ) → t < most_states → swap (pair s t) ≡ pair t s
swap_pair s t h = swap_node (pair s t) (λ z. omega arith) ∙ omega arith

swap_none : (x : ℕ) → x ≡ 0 → swap x ≡ 0
unfolding swap
swap_none x f = rw f

-- swapping twice gives the same pair
swap_back : (x : ℕ) → Below x → swap (swap x) ≡ x
swap_back x h = go (eqb x 0) refl
  where
    go : (a : Bool) → eqb x 0 ≡ a → swap (swap x) ≡ x
    go true e = let z = eqb-true x 0 e in ap swap (swap_none x z) ∙ swap_none 0 refl ∙ sym z
    go false e = let z = eqb-false x 0 e in ap swap (swap_node x z) ∙ swap_pair (right x) (left x) (omega arith) ∙ omega arith

both_none : (s t : ℕ) → (s ≡ no_arrow) ⊎ (t ≡ no_arrow) → both t s ≡ 0
unfolding both
both_none s t (inl e) = rw e (rest (eqb t no_arrow))
  where
    rest : (b : Bool) → cond (b || true) 0 (pair t no_arrow) ≡ 0
    rest true = refl
    rest false = refl
both_none s t (inr f) = rw f

swap_both : (s t x : ℕ) → Both s t x → ((t ≡ no_arrow → ⊥) → t < most_states) → swap x ≡ both t s
swap_both s t x (neither k) h = swap_none 0 refl ∙ sym (both_none s t k)
swap_both s t x (arrows e f) h = swap_pair s t (h f) ∙ sym (both_pair t s (ne_eqb t no_arrow f) (ne_eqb s no_arrow e))

module _ (a b : Policy) (sa : Side a) (sb : Side b) where
  right_small : (s n : ℕ) → (arrow b s n ≡ no_arrow → ⊥) → arrow b s n < most_states
  right_small s n z = omega (arith, arrow_below b sb s n z, sb.few_states)

  left_small : (s n : ℕ) → (arrow a s n ≡ no_arrow → ⊥) → arrow a s n < most_states
  left_small s n z = omega (arith, arrow_below a sa s n z, sa.few_states)

  steps : (x n : ℕ) → Below x → pair_after b a (swap x) n ≡ swap (pair_after a b x n)
  unfolding pair_after
  steps x n h = go (eqb x 0) refl
    where
      s : ℕ
      s = arrow a (left x) n

      t : ℕ
      t = arrow b (right x) n

      go : (c : Bool) → eqb x 0 ≡ c → pair_after b a (swap x) n ≡ swap (cond c 0 (both s t))
      go true e = ap (λ (y : ℕ). pair_after b a y n) (swap_none x (eqb-true x 0 e)) ∙ sym (swap_none 0 refl)
      go false e =
          ap (λ (y : ℕ). pair_after b a y n) (swap_node x (eqb-false x 0 e))
          ∙ pair_after_lem b a (right x) (left x) n (omega arith)
          ∙ sym (swap_both s t (both s t) (boths s t) (right_small (right x) n))

  next_in : (x n : ℕ) → Below x → Below (pair_after a b x n)
  unfolding pair_after
  next_in x n h = go (eqb x 0) (both s t) (boths s t)
    where
      s : ℕ
      s = arrow a (left x) n

      t : ℕ
      t = arrow b (right x) n

      go : (c : Bool) (y : ℕ) → Both s t y → Below (cond c 0 y)
      go true y k = omega arith
      go false y (neither k) = omega arith
      go false y (arrows e f) = omega (arith, left_small (left x) n e, right_small (right x) n f)

  renames : Renames (pair_after a b) (pair_after b a) (start_pair a b) swap Below
  renames =
      record {
        none = swap_none 0 refl;
        apart = λ x y h k e. sym (swap_back x h) ∙ ap swap e ∙ swap_back y k;
        steps = steps;
        zero_in = omega arith;
        start_in = omega (arith, sa.start, sa.few_states, sb.start, sb.few_states);
        next_in = next_in;
      }

  start_swap : swap (start_pair a b) ≡ start_pair b a
  start_swap = swap_pair a.start b.start (omega (arith, sb.start, sb.few_states))

  states_swap : states_of (pair_after b a) (start_pair b a) ≡ states_of (pair_after a b) (start_pair a b)
  states_swap = ap (states_of (pair_after b a)) (sym start_swap) ∙ states_name (pair_after a b) (pair_after b a) (start_pair a b) swap Below renames

  table_swap : table_of (pair_after b a) (start_pair b a) ≡ table_of (pair_after a b) (start_pair a b)
  table_swap = ap (table_of (pair_after b a)) (sym start_swap) ∙ table_name (pair_after a b) (pair_after b a) (start_pair a b) swap Below renames

smaller_swap : (c d : List ℕ) → smaller c d ≡ smaller d c
smaller_swap c d = ap (λ (f : ℕ → ℕ). build f orders) (fun_ext (λ i. least (get_or c i 0) (get_or d i 0)))
  where
    least : (x y : ℕ) → min x y ≡ min y x
    least x y = omega arith

pub merge_commutes : MergeCommutes
unfolding merge_made merge_of merge_table reach_answer reach_of reach_table
merge_commutes a c b d table = go (side_right a) refl (side_right b) refl
  where
    go : (x : Bool) → side_right a ≡ x → (y : Bool) → side_right b ≡ y → Swapped a c b d table
    go true e true f =
        let sa = side_of_lem a e in
        let sb = side_of_lem b f in
        record { merged = rw (e, f, states_swap a b sa sb, smaller_swap d c); leaves = rw (e, f, states_swap a b sa sb, table_swap a b sa sb) }
    go true e false f = record { merged = rw (e, f, smaller_swap d c); leaves = rw (e, f) }
    go false e true f = record { merged = rw (e, f, smaller_swap d c); leaves = rw (e, f) }
    go false e false f = record { merged = rw (e, f, smaller_swap d c); leaves = rw (e, f) }
