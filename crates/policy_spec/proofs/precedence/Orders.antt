-- The made policy allows exactly the lists in order.
use Prim.Native.Nat.{ℕ, zero, suc, ◌+◌, ◌*◌, ◌^◌, ◌<◌, ◌≤◌}
use mathlib.Core.Path.{◌≡◌, refl, sym, ap, ◌∙◌, subst}
use mathlib.Core.Bool.{Bool, true, false, ◌&&◌, ◌||◌, not}
use mathlib.Core.List.{List, [], ◌∷◌}
use mathlib.Core.Logic.{◌⊎◌, inl, inr, ⊎_elim}
use native.Mathlib.Omega.{arith}
use lib.Bits.{bit_or}
use lib.Dec.{eqb, ltb}
use lib.ListN.{length, get_or, drop}
use lib.Pow.{pow_pos}
use lib.Seq.{drop-cons, drop-length}
use borrow.Author.Tests.{ltb-true, ltb-false, eqb-true, eqb-false, eq-eqb, not-true, not-false}
use Rattle.types.specs.Names.{events, no_arrow}
use Rattle.spec.specs.Policies.{Policy, arrow, state_from, allowed_from, allowed}
use Rattle.spec.proofs.Bools.{no, cases, both, either, join, or_left, or_right}
use Rattle.policy_spec.specs.maps.Maps.{map_where, bit}
use Rattle.policy_spec.specs.precedence.Precedence.{ValidPairs, named_in, is_named, named_count, pairs_in, first_at, second_at, bit_index, states_of, firsts_in, arrow_of, blocked, advance_of, made_policy}
use Rattle.policy_spec.specs.precedence.Claims.{Among, AreEvents, OrderLaws, AllowedInOrder, MapLaws, StatesAreMaps}
use Rattle.policy_spec.proofs.maps.Maps.{every_at, every_all, some_at, count_less, bit_or_lem, bit_same, bit_other, bit_zero}
use Rattle.policy_spec.proofs.precedence.Laws.{on_is, on_below, blocked_is}
use Rattle.policy_spec.proofs.precedence.Policies.{fit_right, arrow_is, arrow_above}

-- each event of the pairs is named
pub is_named_lem : (ps : List ℕ) (i : ℕ) → i < length ps → is_named ps (get_or ps i 0) ≡ true
unfolding named_in
is_named_lem ps i h = some_at _ (length ps) i h (eq-eqb (get_or ps i 0) (get_or ps i 0) refl)

-- two different named events have different bits
pub place_apart : (ps : List ℕ) (e f : ℕ) → is_named ps e ≡ true → is_named ps f ≡ true → bit_index ps e ≡ bit_index ps f → e ≡ f
place_apart ps e f m n q = go (eqb e f) refl (ltb e f) refl
  where
    go : (b : Bool) → eqb e f ≡ b → (c : Bool) → ltb e f ≡ c → e ≡ f
    go true t c u = eqb-true e f t
    go false t true u = absurd (omega (arith, count_less (is_named ps) f e (ltb-true e f u) m))
    go false t false u = absurd (omega (arith, count_less (is_named ps) e f (omega (arith, eqb-false e f t, ltb-false e f u)) n))

-- all firsts are recorded exactly if each one is
pub first_recorded : (ps : List ℕ) (s e j : ℕ) → firsts_in ps s e (pairs_in ps) ≡ true → j < pairs_in ps → second_at ps j ≡ e → bit s (bit_index ps (first_at ps j)) ≡ true
unfolding firsts_in
first_recorded ps s e j t h q =
    ⊎_elim
    (λ f. absurd (eqb-false (second_at ps j) e (not-true _ f) q))
    (λ g. g)
    (either (not (eqb (second_at ps j) e)) (bit s (bit_index ps (first_at ps j))) (every_at _ (pairs_in ps) j t h))

pub firsts_recorded : (ps : List ℕ) (s e : ℕ) → ((j : ℕ) → j < pairs_in ps → second_at ps j ≡ e → bit s (bit_index ps (first_at ps j)) ≡ true) → firsts_in ps s e (pairs_in ps) ≡ true
unfolding firsts_in
firsts_recorded ps s e f = every_all _ (pairs_in ps) (λ j h. go j h (eqb (second_at ps j) e) refl)
  where
    go : (j : ℕ) → j < pairs_in ps → (b : Bool) → eqb (second_at ps j) e ≡ b → (not b || bit s (bit_index ps (first_at ps j))) ≡ true
    go j h true t = f j h (eqb-true (second_at ps j) e t)
    go j h false t = refl

-- an event with an arrow sets its bit if it is named
module _ (ps : List ℕ) (m : ℕ) (fit : ValidPairs ps m) (s e : ℕ) (h : s < states_of ps) (k : e < events) where
  pub open_firsts : blocked ps s e ≡ false → is_named ps e ≡ true → firsts_in ps s e (pairs_in ps) ≡ true
  open_firsts t n =
      let u : (true && not (firsts_in ps s e (pairs_in ps))) ≡ false = ap (λ (b : Bool). b && not (firsts_in ps s e (pairs_in ps))) (sym n) ∙ sym (blocked_is ps m fit s e h k) ∙ t in
      not-false _ u

  pub firsts_open : (is_named ps e ≡ true → firsts_in ps s e (pairs_in ps) ≡ true) → blocked ps s e ≡ false
  firsts_open f = blocked_is ps m fit s e h k ∙ go (is_named ps e) refl
    where
      go : (b : Bool) → is_named ps e ≡ b → (b && not (firsts_in ps s e (pairs_in ps))) ≡ false
      go true n = ap not (f n)
      go false n = refl

  pub moves : blocked ps s e ≡ false → arrow_of ps s e ≡ advance_of ps s e
  moves t = rw t

  pub moves_named : blocked ps s e ≡ false → is_named ps e ≡ true → arrow_of ps s e ≡ bit_or s (2 ^ bit_index ps e)
  moves_named t n = moves t ∙ on_is ps m fit s e h k ∙ rw (n, open_firsts t n)

  pub moves_unnamed : blocked ps s e ≡ false → is_named ps e ≡ false → arrow_of ps s e ≡ s
  moves_unnamed t n = moves t ∙ on_is ps m fit s e h k ∙ rw n

  pub moves_below : blocked ps s e ≡ false → arrow_of ps s e < states_of ps
  moves_below t = rw (moves t) (on_below ps m fit s e h k)

module _ (ps es : List ℕ) (m : ℕ) (fit : ValidPairs ps m) where
  -- state s records the named events among the first i
  record SimInvariant (s i : ℕ) : Type 0 where
    state : s < states_of ps
    heard : (f : ℕ) → is_named ps f ≡ true → bit s (bit_index ps f) ≡ true → Among es i f
    kept : (f : ℕ) → is_named ps f ≡ true → Among es i f → bit s (bit_index ps f) ≡ true

  later : (i f : ℕ) → Among es i f → Among es (suc i) f
  later i f a = record { at = a.at; below = omega (arith, a.below); is = a.is }

  -- an event among the first i + 1 is the last of them or an earlier one
  last : (i f : ℕ) → Among es (suc i) f → (get_or es i 0 ≡ f) ⊎ Among es i f
  last i f a = go (eqb a.at i) refl
    where
      go : (b : Bool) → eqb a.at i ≡ b → (get_or es i 0 ≡ f) ⊎ Among es i f
      go true t = inl (ap (λ (x : ℕ). get_or es x 0) (sym (eqb-true a.at i t)) ∙ a.is)
      go false t = inr (record { at = a.at; below = omega (arith, a.below, eqb-false a.at i t); is = a.is })

  sim_invariant_on : (s i : ℕ) → SimInvariant s i → get_or es i 0 < events → blocked ps s (get_or es i 0) ≡ false → SimInvariant (arrow_of ps s (get_or es i 0)) (suc i)
  sim_invariant_on s i r k t = ⊎_elim of_named of_unnamed (cases (is_named ps x))
    where
      x : ℕ
      x = get_or es i 0

      of_named : is_named ps x ≡ true → SimInvariant (arrow_of ps s x) (suc i)
      of_named n =
          let p = bit_index ps x in
          let e : (f : ℕ) → bit (arrow_of ps s x) (bit_index ps f) ≡ (bit s (bit_index ps f) || bit (2 ^ p) (bit_index ps f)) = λ f. ap
          (λ (y : ℕ). bit y (bit_index ps f)) (moves_named ps m fit s x r.state k t n) ∙ bit_or_lem s (2 ^ p) (bit_index ps f) in
          record {
            state = moves_below ps m fit s x r.state k t;
            heard = λ f nf b. ⊎_elim (λ c. later i f (r.heard f nf c)) (λ c. record
                { at = i; below = omega arith; is = place_apart ps x f n nf (same p (bit_index ps f) c) })
                (either (bit s (bit_index ps f)) (bit (2 ^ p) (bit_index ps f)) (sym (e f) ∙ b));
            kept = λ f nf a. e f ∙ ⊎_elim (λ c. or_right (bit s (bit_index ps f)) (bit (2 ^ p) (bit_index ps f))
                (ap (λ (y : ℕ). bit (2 ^ p) (bit_index ps y)) (sym c) ∙ bit_same p))
                (λ c. or_left (bit s (bit_index ps f)) (bit (2 ^ p) (bit_index ps f)) (r.kept f nf c)) (last i f a);
          }
        where
          same : (p q : ℕ) → bit (2 ^ p) q ≡ true → p ≡ q
          same p q c = ⊎_elim (λ u. eqb-true p q u) (λ u. no (sym (bit_other p q (eqb-false p q u)) ∙ c)) (cases (eqb p q))

      of_unnamed : is_named ps x ≡ false → SimInvariant (arrow_of ps s x) (suc i)
      of_unnamed n =
          let e : arrow_of ps s x ≡ s = moves_unnamed ps m fit s x r.state k t n in
          record {
            state = moves_below ps m fit s x r.state k t;
            heard = λ f nf b. later i f (r.heard f nf (ap (λ (y : ℕ). bit y (bit_index ps f)) (sym e) ∙ b));
            kept = λ f nf a. ap (λ (y : ℕ). bit y (bit_index ps f)) e ∙ ⊎_elim (λ c. no (sym n ∙ ap (is_named ps) c ∙ nf)) (λ c. r.kept f nf c) (last i f a);
          }

  starts : SimInvariant 0 0
  starts = record {
    state = pow_pos (named_count ps);
    heard = λ f nf b. no (sym (bit_zero (bit_index ps f)) ∙ b);
    kept = λ f nf a. absurd (omega (arith, a.below));
  }

  -- the event at index i comes after its firsts
  AtPlace : ℕ → Type 0
  AtPlace i = (j : ℕ) → j < pairs_in ps → second_at ps j ≡ get_or es i 0 → Among es i (first_at ps j)

  module _ (are : AreEvents es) where
    -- the rest of the list, from index i on, is allowed
    abbrev Rest : ℕ → ℕ → Type 0
    Rest s i = allowed_from (made_policy ps) s (drop i es) ≡ true

    unfolds : (s i : ℕ) → i < length es → s < states_of ps → allowed_from (made_policy ps) s (drop i es)
        ≡ (not (blocked ps s (get_or es i 0)) && allowed_from (made_policy ps) (arrow_of ps s (get_or es i 0)) (drop (suc i) es))
    unfolds s i h l = rw (drop-cons es i 0 h, arrow_is ps s (get_or es i 0) l (are i h))

    at_place : (s i : ℕ) → i < length es → SimInvariant s i → blocked ps s (get_or es i 0) ≡ false → AtPlace i
    unfolding AtPlace
    at_place s i h r t j l q =
        let x = get_or es i 0 in
        let n : is_named ps x ≡ true = ap (is_named ps) (sym q) ∙ is_named_lem ps (2 * j + 1) (omega arith) in
        let b = first_recorded ps s x j (open_firsts ps m fit s x r.state (are i h) t n) l q in
        r.heard (first_at ps j) (is_named_lem ps (2 * j) (omega arith)) b

    not_blocked : (s i : ℕ) → i < length es → SimInvariant s i → AtPlace i → blocked ps s (get_or es i 0) ≡ false
    unfolding AtPlace
    not_blocked s i h r a =
        let x = get_or es i 0 in
        firsts_open ps m fit s x r.state (are i h)
        (λ n. firsts_recorded ps s x (λ j l q. r.kept (first_at ps j) (is_named_lem ps (2 * j) (omega arith)) (a j l q)))

    in_order : (d s i : ℕ) → i + d ≡ length es → SimInvariant s i → Rest s i → (k : ℕ) → i ≤ k → k < length es → AtPlace k
    in_order zero s i e r t k g h = absurd (omega arith)
    in_order (suc d) s i e r t k g h =
        let l : i < length es = omega arith in
        let f = both (not (blocked ps s (get_or es i 0))) _ (sym (unfolds s i l r.state) ∙ t) in
        let o : blocked ps s (get_or es i 0) ≡ false = not-true _ f.0 in
        ⊎_elim
        (λ q. rw (eqb-true k i q) (at_place s i l r o))
        (λ q. in_order d (arrow_of ps s (get_or es i 0)) (suc i) (omega arith) (sim_invariant_on s i r (are i l) o) f.1 k (omega (arith, eqb-false k i q)) h)
        (cases (eqb k i))

    in_order_allowed : (d s i : ℕ) → i + d ≡ length es → SimInvariant s i → ((k : ℕ) → k < length es → AtPlace k) → Rest s i
    in_order_allowed zero s i e r a =
        let q : i ≡ length es = omega arith in
        ap (λ (x : List ℕ). allowed_from (made_policy ps) s x) (ap (λ (n : ℕ). drop n es) q ∙ drop-length es)
    in_order_allowed (suc d) s i e r a =
        let l : i < length es = omega arith in
        let o : blocked ps s (get_or es i 0) ≡ false = not_blocked s i l r (a i l) in
        unfolds s i l r.state ∙ join (not (blocked ps s (get_or es i 0))) _ (ap not o) (in_order_allowed d (arrow_of ps s (get_or es i 0)) (suc i) (omega arith) (sim_invariant_on s i r (are i l) o) a)

    order_laws : OrderLaws ps es
    unfolding allowed AtPlace
    order_laws = record {
      ordered = λ t i j h. in_order (length es) 0 0 (omega arith) starts t i (omega arith) h j;
      allows = λ a. in_order_allowed (length es) 0 0 (omega arith) starts (λ k h j. a k j h);
    }

    -- the state after the rest records the named events of the whole list
    records_all : (d s i : ℕ) → i + d ≡ length es → SimInvariant s i → Rest s i → SimInvariant (state_from (made_policy ps) s (drop i es)) (length es)
    records_all zero s i e r t =
        let q : i ≡ length es = omega arith in
        let none : state_from (made_policy ps) s (drop i es) ≡ s = ap (λ (n : ℕ). state_from (made_policy ps) s (drop n es)) q ∙ ap (state_from (made_policy ps) s) (drop-length es) in
        rw (none, ← q) r
    records_all (suc d) s i e r t =
        let l : i < length es = omega arith in
        let f = both (not (blocked ps s (get_or es i 0))) _ (sym (unfolds s i l r.state) ∙ t) in
        let on : state_from (made_policy ps) s (drop i es) ≡ state_from (made_policy ps) (arrow_of ps s (get_or es i 0)) (drop (suc i) es) =
        ap (state_from (made_policy ps) s) (drop-cons es i 0 l) ∙ ap (λ (x : ℕ). state_from (made_policy ps) x (drop (suc i) es)) (arrow_is ps s (get_or es i 0) r.state (are i l)) in
        subst (λ (x : ℕ). SimInvariant x (length es)) (sym on)
        (records_all d (arrow_of ps s (get_or es i 0)) (suc i) (omega arith) (sim_invariant_on s i r (are i l) (not-true _ f.0)) f.1)

    map_laws : allowed (made_policy ps) es ≡ true → MapLaws ps es
    unfolding allowed
    map_laws t = let r = records_all (length es) 0 0 (omega arith) starts t in record { state = r.state; recorded = r.heard; kept = r.kept }

-- only events 0 to 15 are allowed
are_events : (pol : Policy) (s : ℕ) (es : List ℕ) → allowed_from pol s es ≡ true → AreEvents es
are_events pol s [] t i h = absurd (omega arith)
are_events pol s (e ∷ es) t zero h =
    ⊎_elim (λ l. ltb-true e events l)
    (λ l. absurd (eqb-false _ _ (not-true _ (both (not (eqb (arrow pol s e) no_arrow)) (allowed_from pol (arrow pol s e) es) t).0) (arrow_above pol s e (ltb-false e events l)))) (cases (ltb e events))
are_events pol s (e ∷ es) t (suc i) h = are_events pol (arrow pol s e) es (both (not (eqb (arrow pol s e) no_arrow)) (allowed_from pol (arrow pol s e) es) t).1 i (omega arith)

pub states_are_maps : StatesAreMaps
unfolding allowed
states_are_maps ps es t a = map_laws ps es (map_where (is_named ps) events) (fit_right ps t) (are_events (made_policy ps) 0 es a) a

pub allowed_in_order : AllowedInOrder
allowed_in_order ps es t are = order_laws ps es (map_where (is_named ps) events) (fit_right ps t) are
