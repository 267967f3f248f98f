-- What merging answers and leaves, as a C host's numbers.
use Prim.Native.Nat.{ℕ, ◌+◌, ◌^◌, ◌<◌}
use mathlib.Core.Path.{◌≡◌, refl, sym, ◌∙◌, ap, subst}
use mathlib.Core.Bool.{Bool, true, false, ◌&&◌}
use mathlib.Core.List.{List, ◌∷◌, ◌++◌, append-nil}
use native.Mathlib.Omega.{arith}
use lib.ListN.{length, drop, replicate}
use lib.Seq.{sets, sets-eq}
use Rattle.types.specs.Names.{orders}
use Rattle.spec.specs.Policies.{Policy}
use Rattle.capi_spec.specs.Numbers.{answer_to}
use Rattle.policy_spec.proofs.reachability.Reach.{place_most}
use Rattle.policy_merge.specs.Pairs.{Merged, pair_after, start_pair, side_right, merge_made, with_ceilings, merge_of, merge_table}
use Rattle.capi.specs.merge.Numbers.{ceilings_from, policy_from, merged_to, host_merged, merge_for}

-- the ceilings are stored after states and start, over zeros
pub merged_of : (m : Merged) (xs : List ℕ) → length m.ceilings ≡ orders → xs ≡ sets (m.policy.states ∷ m.policy.start ∷ replicate orders 0) 2 m.ceilings → xs ≡ merged_to m
merged_of m xs h e =
    let two : List ℕ → List ℕ = λ ys. m.policy.states ∷ m.policy.start ∷ ys in
    let c = m.ceilings in
    e ∙ sets-eq c (two (replicate orders 0)) 2 (omega (arith, h)) ∙ ap (λ (k : ℕ). two (c ++ drop (2 + k) (two (replicate orders 0)))) h ∙ ap two (append-nil c)

-- the place has 32 bits
pub narrow_merged : (a : Policy) (c : List ℕ) (b : Policy) (d : List ℕ) (room : ℕ) (m : Merged) → m ≡ merge_of a c b d room → m.answer.place < 2 ^ 32
unfolding merge_of with_ceilings merge_made
narrow_merged a c b d room m e = subst (λ (x : Merged). x.answer.place < 2 ^ 32) (sym e) (go (side_right a && side_right b) refl)
  where
    go : (r : Bool) → (side_right a && side_right b) ≡ r → (merge_made a b room).answer.place < 2 ^ 32
    go false f = rw f (omega arith)
    go true f = rw f (omega (arith, place_most (pair_after a b) (start_pair a b) room))

-- the result is that for the policies from a host's numbers
pub hosted : (xs left ys right table : List ℕ) (a b : Policy) (c d : List ℕ) → a ≡ policy_from xs left → c ≡ ceilings_from xs → b ≡ policy_from ys right → d ≡ ceilings_from ys
    → (m : Merged) (t : List ℕ) → m ≡ merge_of a c b d (length table) → t ≡ merge_table a b table → host_merged (answer_to m.answer) (merged_to m) t ≡ merge_for xs left ys right table
unfolding merge_for
hosted xs left ys right table a b c d p q r s m t e f = rw (e, f, p, q, r, s)
