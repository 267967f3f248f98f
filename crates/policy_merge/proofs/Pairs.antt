-- Pairs of states, and swapping them.
use Prim.Native.Nat.{ℕ, zero, suc, ◌+◌, ◌*◌, ◌<◌, ◌≤◌, min}
use mathlib.Core.Path.{◌≡◌, refl, sym, ap, ap₂, ◌∙◌}
use mathlib.Core.Bool.{Bool, true, false, ◌&&◌, ◌||◌, not, cond, and-false, and_assoc}
use mathlib.Core.List.{List, [], ◌∷◌}
use mathlib.Core.Logic.{◌⊎◌, inl, inr, ⊎_elim}
use native.Mathlib.Omega.{arith}
use lib.Dec.{eqb, leb, ltb}
use lib.ListN.{length, get_or}
use borrow.Author.Tests.{ltb-true, eqb-true, eqb-false, leb-true, ne_eqb, eq-eqb, le-ltb}
use Rattle.types.specs.Names.{most_states, events, orders, no_arrow}
use Rattle.spec.specs.Policies.{Policy, arrow, allowed_from, allowed, state_from, states_right, entry_right, entries_right, right_policy}
use Rattle.spec.proofs.Bools as bools
use Rattle.installer.specs.table.Tables.{table_right}
use Rattle.policy_spec.proofs.maps.Maps.{build_at}
use Rattle.policy_spec.specs.reachability.Reach.{node_after, reach_of}
use Rattle.policy_spec.specs.reachability.Claims.{Arrows}
use Rattle.policy_spec.proofs.reachability.Reach.{nodes_exact, taken_reaches, reach_right, allowed_reaches, after_none}
use Rattle.policy_merge.specs.Pairs.{pair, left, right, both, pair_after, start_pair, side_right, with_ceilings, merge_made, merge_of, merge_table}
use Rattle.policy_merge.specs.Claims.{Merges, TakenMerges, MergedRight, CeilingsOfBoth, SideInstalls, AllowedByBoth, PairsAreStates, PairsExact}

-- what holds of a policy that is not refused as bad policy (10)
pub record Side (p : Policy) : Type 0 where
  pub some_states : 1 ≤ p.states
  pub few_states : p.states ≤ most_states
  pub size : length p.table ≡ events * p.states
  pub start : p.start < p.states
  pub entries : (i : ℕ) → (get_or p.table i no_arrow ≡ no_arrow → ⊥) → get_or p.table i no_arrow < p.states

entries_at : (s : ℕ) (bs : List ℕ) (i : ℕ) → entries_right s bs ≡ true → (get_or bs i no_arrow ≡ no_arrow → ⊥) → get_or bs i no_arrow < s
entries_at s [] i e z = absurd (z refl)
entries_at s (b ∷ bs) zero e z = ⊎_elim (ltb-true b s) (λ f. absurd (z (eqb-true b no_arrow f))) (bools.either (ltb b s) (eqb b no_arrow) (bools.both (entry_right s b) (entries_right s bs) e).0)
entries_at s (b ∷ bs) (suc i) e z = entries_at s bs i (bools.both (entry_right s b) (entries_right s bs) e).1 z

pub side_of_lem : (p : Policy) → side_right p ≡ true → Side p
unfolding table_right
side_of_lem p t =
    let m = bools.both (states_right p.states && eqb (length p.table) (events * p.states) && ltb p.start p.states) (entries_right p.states p.table) t in
    let q = bools.both (states_right p.states && eqb (length p.table) (events * p.states)) (ltb p.start p.states) m.0 in
    let l = bools.both (states_right p.states) (eqb (length p.table) (events * p.states)) q.0 in
    let s = bools.both (leb 1 p.states) (leb p.states most_states) l.0 in
    record {
      some_states = leb-true 1 p.states s.0;
      few_states = leb-true p.states most_states s.1;
      size = eqb-true (length p.table) (events * p.states) l.1;
      start = ltb-true p.start p.states q.1;
      entries = λ i. entries_at p.states p.table i m.1;
    }

-- an arrow leads to a state
pub arrow_below : (p : Policy) → Side p → (s n : ℕ) → (arrow p s n ≡ no_arrow → ⊥) → arrow p s n < p.states
arrow_below p side s n = go (ltb n events)
  where
    go : (b : Bool) → (cond b (get_or p.table (events * s + n) no_arrow) no_arrow ≡ no_arrow → ⊥) → cond b (get_or p.table (events * s + n) no_arrow) no_arrow < p.states
    go true z = side.entries (events * s + n) z
    go false z = absurd (z refl)

-- both arrows exist, or there is no pair
pub data Both (s t : ℕ) : ℕ → Type 0 where
  neither : (s ≡ no_arrow) ⊎ (t ≡ no_arrow) → Both s t 0
  arrows : (s ≡ no_arrow → ⊥) → (t ≡ no_arrow → ⊥) → Both s t (pair s t)

pub boths : (s t : ℕ) → Both s t (both s t)
unfolding both
boths s t = go (eqb s no_arrow) refl (eqb t no_arrow) refl
  where
    go : (a : Bool) → eqb s no_arrow ≡ a → (b : Bool) → eqb t no_arrow ≡ b → Both s t (cond (a || b) 0 (pair s t))
    go true e b f = neither (inl (eqb-true s no_arrow e))
    go false e true f = neither (inr (eqb-true t no_arrow f))
    go false e false f = arrows (eqb-false s no_arrow e) (eqb-false t no_arrow f)

pub both_pair : (s t : ℕ) → eqb s no_arrow ≡ false → eqb t no_arrow ≡ false → both s t ≡ pair s t
unfolding both
both_pair s t e f = rw (e, f)

pub pair_after_lem : (a b : Policy) (s t n : ℕ) → t < most_states → pair_after a b (pair s t) n ≡ both (arrow a s n) (arrow b t n)
unfolding pair_after
pair_after_lem a b s t n h =
    let u : left (pair s t) ≡ s = omega arith in
    let v : right (pair s t) ≡ t = omega arith in
    rw (ne_eqb (pair s t) 0 (λ z. omega arith)) (ap₂ (λ (x y : ℕ). both (arrow a x n) (arrow b y n)) u v)

module _ (a b : Policy) where
  pub pairs : (q : ℕ) → (q ≡ 0 → ⊥) → Arrows (pair_after a b) q
  unfolding pair_after
  pairs q z = record { none = λ n. refl; above = above; start = z }
    where
      above : (x n : ℕ) → events ≤ n → cond (eqb x 0) 0 (both (arrow a (left x) n) (arrow b (right x) n)) ≡ 0
      above x n h = rw (le-ltb n events h) (go (eqb x 0) (both no_arrow no_arrow) (boths no_arrow no_arrow))
        where
          go : (c : Bool) (y : ℕ) → Both no_arrow no_arrow y → cond c 0 y ≡ 0
          go true y k = refl
          go false y (neither k) = refl
          go false y (arrows k l) = absurd (k refl)

  pub start_pairs : Arrows (pair_after a b) (start_pair a b)
  start_pairs = pairs (start_pair a b) (λ z. omega arith)

module _ (a b : Policy) (sa : Side a) (sb : Side b) where
  -- the pair after a list of events, or 0
  abbrev reached : List ℕ → ℕ → ℕ → ℕ
  reached es s t = cond (allowed_from a s es && allowed_from b t es) (pair (state_from a s es) (state_from b t es)) 0

  pub pair_states : (es : List ℕ) (s t : ℕ) → t < most_states → node_after (pair_after a b) (pair s t) es ≡ reached es s t
  pair_states [] s t h = refl
  pair_states (n ∷ es) s t h = ap (λ (x : ℕ). node_after (pair_after a b) x es) (pair_after_lem a b s t n h) ∙ go (both (arrow a s n) (arrow b t n)) (boths (arrow a s n) (arrow b t n)) (pair_states es)
    where
      go : (x : ℕ) → Both (arrow a s n) (arrow b t n) x → ((s t : ℕ) → t < most_states → node_after (pair_after a b) (pair s t) es ≡ reached es s t)
          → node_after (pair_after a b) x es ≡ reached (n ∷ es) s t
      go x (neither (inl e)) r = rw (after_none (pair_after a b) (start_pairs a b).none es, eq-eqb (arrow a s n) no_arrow e)
      go x (neither (inr f)) r =
          rw (after_none (pair_after a b) (start_pairs a b).none es, eq-eqb (arrow b t n) no_arrow f)
          (sym (ap (λ (c : Bool). cond c (pair (state_from a s (n ∷ es)) (state_from b t (n ∷ es))) 0) (and-false (allowed_from a s (n ∷ es)))))
      go x (arrows e f) r =
          rw (ne_eqb (arrow a s n) no_arrow e, ne_eqb (arrow b t n) no_arrow f) (r (arrow a s n) (arrow b t n) (omega (arith, arrow_below b sb t n f, sb.few_states)))

  -- so there is a pair exactly if both policies allow the list
  pub pair_allowed : (es : List ℕ) (s t : ℕ) → t < most_states → not (eqb (node_after (pair_after a b) (pair s t) es) 0) ≡ (allowed_from a s es && allowed_from b t es)
  pair_allowed es s t h = ap (λ (x : ℕ). not (eqb x 0)) (pair_states es s t h) ∙ go (allowed_from a s es && allowed_from b t es) (state_from a s es) (state_from b t es)
    where
      go : (c : Bool) (u v : ℕ) → not (eqb (cond c (pair u v) 0) 0) ≡ c
      go true u v = rw (ne_eqb (pair u v) 0 (λ z. omega arith))
      go false u v = refl

pub allowed_by_both : AllowedByBoth
unfolding allowed
allowed_by_both a b es r t =
    let q = bools.both (side_right a) (side_right b) r in
    let sa = side_of_lem a q.0 in
    let sb = side_of_lem b q.1 in
    allowed_reaches (pair_after a b) (start_pair a b) es (start_pairs a b) t ∙ pair_allowed a b sa sb es a.start b.start (omega (arith, sb.start, sb.few_states))

pub pairs_are_states : PairsAreStates
unfolding allowed
pairs_are_states a b es r =
    let q = bools.both (side_right a) (side_right b) r in
    let sb = side_of_lem b q.1 in
    pair_states a b (side_of_lem a q.0) sb es a.start b.start (omega (arith, sb.start, sb.few_states))

pub merged_right : MergedRight
merged_right a b lay r t e = reach_right (pair_after a b) (start_pair a b) lay (start_pairs a b) t e

pub pairs_exact : PairsExact
pairs_exact a b r = nodes_exact (pair_after a b) (start_pair a b) (start_pairs a b)

pub side_installs : SideInstalls
unfolding table_right right_policy
side_installs p lay e =
    let l = eqb (length p.table) (events * p.states) in
    let q = ltb p.start p.states in
    let r = entries_right p.states p.table in
    rw (eq-eqb p.states lay.states (sym e)) (ap (λ (b : Bool). b && r) (and_assoc (states_right p.states) l q) ∙ and_assoc (states_right p.states) (l && q) r)

pub ceilings_of_both : CeilingsOfBoth
ceilings_of_both c d i v h =
    ap (min v) (build_at (λ j. min (get_or c j 0) (get_or d j 0)) orders i 0 h) ∙ omega arith

pub taken_merges : TakenMerges
unfolding merge_made merge_of merge_table with_ceilings
taken_merges a c b d table t = go (side_right a && side_right b) refl
  where
    go : (x : Bool) → (side_right a && side_right b) ≡ x → Merges a c b d table
    go false e = absurd (omega (arith, rw e at t))
    go true e =
        let z : (reach_of (pair_after a b) (start_pair a b) (length table)).answer.number ≡ 0 = rw e at t in
        let m = taken_reaches (pair_after a b) (start_pair a b) table z in
        record { right = e; few = m.few; states = rw e m.states; start = rw e m.start; ceilings = rw (e, z); leaves = rw e m.leaves }
