-- Laws of the functions, one for each return.
use Rattle.std.proofs.Common.{ℕ, zero, suc, ◌+◌, ◌-◌, ◌*◌, ◌/◌, ◌%◌, ◌<◌, ◌≤◌, ◌≡◌, min, refl, sym, subst, ◌∙◌, Bool, true, false, ◌&&◌, Option, Some, None, MatchOption, Result, Ok, Err, List, [], length, get_or, arith}
use Rattle.std.specs.Int.NonZero.{non_zero_u16_get}
use Rattle.std.specs.declared.num.NonZeroU16.{NonZeroU16}
use Rattle.std.specs.Result.{IsErrAnd}
use borrow.Author.Tests.{ne_eqb, lt-ltb}
use Rattle.types.specs.declared.Refusal.TheVariants.{BadPolicy}
use Rattle.types.specs.declared.Reject.{Reject}
use Rattle.types.proofs.Exits.{refusal_counts}
use Rattle.std.specs.Array.{IsFromFnResult, IsFromFnResultFrom}
use Rattle.std.proofs.lemmas.Grind.{same_number_lists}
use Rattle.policy_spec.proofs.maps.Maps.{length_build, build_at}
use Rattle.std.specs.Fn.{Called}
use denote.Param.Members.{Mut}
use Rattle.types.specs.Names.{most_states, events, orders, no_arrow, number_of, refusal}
use Rattle.spec.specs.Policies.{Policy, policy_of}
use Rattle.spec.proofs.Bools as bools
use Rattle.policy_spec.specs.declared.reachability.NewPolicy.{NewPolicy}
use Rattle.policy_spec.specs.reachability.Reach.{Made, made_with}
use Rattle.policy_spec.specs.reachability.Results.{made_of}
use Rattle.policy_spec.specs.reachability.Worklists.{Worklist, node_number, Explored, written_of, written_table}
use Rattle.policy_spec.specs.tables.Arrows.{arrow_from}
use Rattle.policy_spec.proofs.tables.Arrows.{none_is, some_is}
use Rattle.policy_spec.proofs.reachability.Explore.{written_made, written_table_lem}
use Rattle.policy_merge.specs.declared.MergedPolicy.{MergedPolicy}
use Rattle.policy_merge.specs.Pairs.{pair, both, pair_after, start_pair, side_right, smaller, merge_made, with_ceilings, merge_of, merge_table}
use Rattle.policy_merge.specs.Results.{merged_of}
use Rattle.policy_merge.proofs.Pairs.{side_of_lem, start_pairs}

-- no pair has no next one
pub next_none : (a b : Policy) (x n : ℕ) → x ≡ 0 → 0 ≡ pair_after a b x n
unfolding pair_after
next_none a b x n e = rw e

module _ (a b : Policy) (x n p : ℕ) (above : 1 ≤ x) (e : p ≡ x - 1) (h : n < events) where
  abbrev pub left_entry : ℕ
  left_entry = get_or a.table (events * (p / most_states) + n) no_arrow

  abbrev pub right_entry : ℕ
  right_entry = get_or b.table (events * (p % most_states) + n) no_arrow

  next_is : pair_after a b x n ≡ both left_entry right_entry
  unfolding pair_after
  next_is = rw (ne_eqb x 0 (λ z. omega arith), lt-ltb n events h, e)

  pub next_left : None ≡ arrow_from left_entry → 0 ≡ pair_after a b x n
  unfolding both
  next_left f = rw (next_is, none_is left_entry f)

  pub next_right : (s : ℕ) → Some s ≡ arrow_from left_entry → None ≡ arrow_from right_entry → 0 ≡ pair_after a b x n
  unfolding both
  next_right s f g = let k = some_is left_entry s f in rw (next_is, ← k.0, ne_eqb s no_arrow k.1, none_is right_entry g)

  pub next_pair : (s t : ℕ) → Some s ≡ arrow_from left_entry → Some t ≡ arrow_from right_entry → pair s t ≡ pair_after a b x n
  unfolding both
  next_pair s t f g =
      let k = some_is left_entry s f in
      let l = some_is right_entry t g in
      rw (next_is, ← k.0, ← l.0, ne_eqb s no_arrow k.1, ne_eqb t no_arrow l.1)

-- the pair after an event depends only on the tables
pub tables_alone : (a b : Policy) → pair_after (policy_of 0 0 a.table []) (policy_of 0 0 b.table []) ≡ pair_after a b
unfolding pair_after
tables_alone a b = refl

-- a number above 0 as a node
pub node_is : (o : Option NonZeroU16) (x : ℕ) → MatchOption o (x ≡ 0) (λ y. non_zero_u16_get y ≡ x) → node_number o ≡ x
node_is None x h = sym h
node_is (Some y) x h = h

-- ---- merging

module _ (a b : Policy) (x y : Bool) (e : x ≡ side_right a) (f : y ≡ side_right b) where
  -- what is answered and written
  abbrev pub Makes : List ℕ → Made → List ℕ → Type 0
  Makes t made t' = record { made : made ≡ merge_made a b (length t); table : t' ≡ merge_table a b t }

  pub bad_policy : (t : List ℕ) → (x && y) ≡ false → Makes t (made_with (refusal BadPolicy 0) 0) t
  unfolding merge_made merge_table
  bad_policy t g = rw (← e, ← f, g) (record { made = refl; table = refl })

  pub sides : (x && y) ≡ true → (a.start < most_states) × (b.start < most_states)
  sides g =
      let r = bools.both x y g in
      let s = side_of_lem a (sym e ∙ r.0) in
      let t = side_of_lem b (sym f ∙ r.1) in
      (omega (arith, s.start, s.few_states), omega (arith, t.start, t.few_states))

  pub makes : (t t' : List ℕ) (made : Made) (w : Worklist) → (x && y) ≡ true → Explored (pair_after a b) (start_pair a b) w → made ≡ written_of w (length t) → t' ≡ written_table w t
      → Makes t made t'
  unfolding merge_made merge_table
  makes t t' made w g ex m n =
      rw (← e, ← f, g)
      (record { made = m ∙ written_made (pair_after a b) (start_pair a b) (start_pairs a b) w ex (length t); table = n ∙ written_table_lem (pair_after a b) (start_pair a b) (start_pairs a b) w ex t })

-- the ceilings of a policy that was made, and what `?` hands on of a refusal
module _ (a b : Policy) (c d : List ℕ) (n : ℕ) where
  pub merged_is : (m : NewPolicy) (s : List ℕ) → made_of (Ok m) ≡ merge_made a b n → s ≡ smaller c d
      → merged_of (Ok (record { bytes = m.bytes; policy = m.policy; ceilings = s })) ≡ merge_of a c b d n
  unfolding merge_of with_ceilings
  merged_is m s e f = rw (← e, f)

  pub refused_is : (x : Reject) (r : Result MergedPolicy Reject) → made_of (Err x) ≡ merge_made a b n → IsErrAnd r (λ y. y ≡ x) → merged_of r ≡ merge_of a c b d n
  unfolding merge_of with_ceilings
  refused_is x (Ok m) e f = absurd f
  refused_is x (Err y) e f = rw (f, ← e, ne_eqb (number_of x.refusal) 0 (refusal_counts x.refusal))

-- ---- ceilings

-- what a closure that only reads answered at each of the n numbers from i on
all_answered : {F : Type 0} (g : Mut F (ℕ × Unit {0}) ℕ) (f : F) (v : ℕ → ℕ) → ((i r : ℕ) (f' : F) → Called g f (i, tt) r f' → (r ≡ v i) × (f' ≡ f)) → (ys : List ℕ) (i n : ℕ) → IsFromFnResultFrom g f ys i n
    → (k j : ℕ) → k < n → i + k ≡ j → get_or ys j 0 ≡ v j
all_answered g f v calls ys i zero h k j l e = absurd (omega arith)
all_answered {F} g f v calls ys i (suc n) h zero j l e =
    let at : i ≡ j = omega arith in
    rw (← at) (h.2.1 0 ∙ (calls i h.1 h.0 h.3).0)
all_answered {F} g f v calls ys i (suc n) h (suc k) j l e =
    all_answered g f v calls ys (i + 1) n (subst (λ (p : F). IsFromFnResultFrom g p ys (i + 1) n) (calls i h.1 h.0 h.3).1 h.4) k j (omega arith) (omega arith)

pub smaller_is : {F : Type 0} (g : Mut F (ℕ × Unit {0}) ℕ) (f : F) (c d ys : List ℕ) → IsFromFnResult g f ys orders
    → ((i r : ℕ) (f' : F) → Called g f (i, tt) r f' → (r ≡ min (get_or c i 0) (get_or d i 0)) × (f' ≡ f)) → ys ≡ smaller c d
smaller_is g f c d ys h calls =
    let v = λ (i : ℕ). min (get_or c i 0) (get_or d i 0) in
    same_number_lists ys (smaller c d) (h.long ∙ sym (length_build v orders))
    (λ k l. let b : k < orders = omega (arith, h.long) in all_answered g f v calls ys 0 orders h.each k k b (omega arith) ∙ sym (build_at v orders k 0 b))
