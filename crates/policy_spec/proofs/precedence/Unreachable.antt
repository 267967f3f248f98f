-- An event that is blocked at the fixpoint is in no allowed list; any other event is in one.
use Prim.Native.Nat.{ℕ, zero, suc, ◌+◌, ◌-◌, ◌*◌, ◌%◌, ◌^◌, ◌<◌, ◌≤◌}
use mathlib.Core.Path.{◌≡◌, refl, sym, ap, ap₂, ◌∙◌}
use mathlib.Core.Bool.{Bool, true, false, ◌&&◌, not, cond}
use mathlib.Core.List.{List, [], ◌∷◌, ◌++◌}
use mathlib.Core.Logic.{◌⊎◌, inl, inr, ⊎_elim}
use native.Mathlib.Omega.{arith}
use lib.Bits.{bit_or}
use lib.Dec.{eqb, ltb, leb}
use lib.ListN.{length, get_or, drop, length-append}
use lib.Pow.{pow_pos}
use lib.Seq.{drop-cons, get_or_at}
use borrow.Author.Tests.{ltb-true, ltb-false, leb-true, leb-false, eqb-true, eqb-false, not-true}
use Rattle.types.specs.Names.{events, no_arrow}
use Rattle.spec.specs.Policies.{Policy, arrow, state_from, allowed_from, allowed}
use Rattle.spec.proofs.Bools.{no, cases, both, either, join, or_left, or_right}
use Rattle.policy_spec.specs.maps.Maps.{count, map_where, bit}
use Rattle.policy_spec.specs.precedence.Precedence.{ValidPairs, most_named, is_named, named_count, pairs_in, first_at, bit_index, states_of, firsts_in}
use Rattle.policy_spec.specs.precedence.Precedence.{arrow_of, blocked, advance_of, iterate, fixpoint_of, unreachable_events, made_policy}
use Rattle.policy_spec.specs.precedence.Claims.{Unreachable, UnreachableLaws, UnreachableExact}
use Rattle.policy_spec.proofs.maps.Maps.{bit_or_lem, bit_same, bit_zero, bit_map, bit_high, bit_kept, map_lt, count_le, count_sub_less}
use Rattle.policy_spec.proofs.precedence.Laws.{on_is, blocked_is, turns_below, place_less}
use Rattle.policy_spec.proofs.precedence.Policies.{fit_right, arrow_is, arrow_above}
use Rattle.policy_spec.proofs.precedence.Orders.{first_recorded, firsts_recorded, open_firsts, moves, moves_named, moves_unnamed, moves_below}

-- every bit of s is set in t
Within : ℕ → ℕ → Type 0
Within s t = (k : ℕ) → bit s k ≡ true → bit t k ≡ true

-- how many bits of a state are set
abbrev size : ℕ → ℕ
size s = count (bit s) most_named

module _ (ps : List ℕ) (m : ℕ) (fit : ValidPairs ps m) where
  -- a step keeps the state, or sets one more bit
  grows : (s e : ℕ) → s < states_of ps → e < events → (advance_of ps s e ≡ s) ⊎ (size s < size (advance_of ps s e))
  grows s e h k = go (is_named ps e) refl (firsts_in ps s e (pairs_in ps)) refl (bit s (bit_index ps e)) refl
    where
      p : ℕ
      p = bit_index ps e

      is : (n f : Bool) → is_named ps e ≡ n → firsts_in ps s e (pairs_in ps) ≡ f → advance_of ps s e ≡ cond (n && f) (bit_or s (2 ^ p)) s
      is n f a b = on_is ps m fit s e h k ∙ ap₂ (λ (x y : Bool). cond (x && y) (bit_or s (2 ^ p)) s) a b

      set : (i : ℕ) → bit s i ≡ true → bit (bit_or s (2 ^ p)) i ≡ true
      set i t = bit_or_lem s (2 ^ p) i ∙ or_left (bit s i) (bit (2 ^ p) i) t

      go : (n : Bool) → is_named ps e ≡ n → (f : Bool) → firsts_in ps s e (pairs_in ps) ≡ f → (b : Bool) → bit s p ≡ b → (advance_of ps s e ≡ s) ⊎ (size s < size (advance_of ps s e))
      go false a f c b d = inl (is false f a c)
      go true a false c b d = inl (is true false a c)
      go true a true c true d = inl (is true true a c ∙ bit_kept s p d)
      go true a true c false d =
          inr (rw (is true true a c) (count_sub_less (bit s) (bit (bit_or s (2 ^ p))) most_named p set (place_less ps m fit e k a) d (bit_or_lem s (2 ^ p) p
          ∙ or_right (bit s p) (bit (2 ^ p) p) (bit_same p))))

  -- no event changes state s
  Closed : ℕ → Type 0
  Closed s = (e : ℕ) → e < events → advance_of ps s e ≡ s

  turn : (i : ℕ) → iterate ps (suc i) ≡ advance_of ps (iterate ps i) (i % events)
  unfolding iterate
  turn i = refl

  size_turn : (i : ℕ) → size (iterate ps i) ≤ size (iterate ps (suc i))
  size_turn i =
      rw (turn i)
      (⊎_elim (λ e. rw e (omega arith)) (λ l. omega arith) (grows (iterate ps i) (i % events) (turns_below ps m fit i) (omega arith)))

  size_turns : (d i : ℕ) → size (iterate ps i) ≤ size (iterate ps (i + d))
  size_turns zero i = let e : i + 0 ≡ i = omega arith in rw e (omega arith)
  size_turns (suc d) i = let e : i + suc d ≡ suc (i + d) = omega arith in rw e (omega (arith, size_turns d i, size_turn (i + d)))

  -- if steps set no bit, they keep the state
  still : (d i : ℕ) → size (iterate ps (i + d)) ≤ size (iterate ps i) → iterate ps (i + d) ≡ iterate ps i
  still zero i l = let e : i + 0 ≡ i = omega arith in ap (iterate ps) e
  still (suc d) i l =
      let e : i + suc d ≡ suc (i + d) = omega arith in
      let l₁ : size (iterate ps (suc (i + d))) ≤ size (iterate ps i) = rw e at l in
      let same : iterate ps (i + d) ≡ iterate ps i = still d i (omega (arith, size_turn (i + d))) in
      let s = iterate ps (i + d) in
      let b : size (iterate ps i) ≤ size s = size_turns d i in
      rw e
      (⊎_elim
      (λ q. turn (i + d) ∙ q ∙ same)
      (λ g. absurd (omega (arith, rw (← turn (i + d)) at g)))
      (grows s ((i + d) % events) (turns_below ps m fit (i + d)) (omega arith)))

  -- if a pass over all events sets no bit, no event changes the state
  still_closed : (k : ℕ) → size (iterate ps (events * k + events)) ≤ size (iterate ps (events * k)) → Closed (iterate ps (events * k))
  unfolding Closed
  still_closed k l e h =
      let i = events * k in
      let b : size (iterate ps (suc (i + e))) ≤ size (iterate ps (events * k + events)) = upto (events - suc e) (suc (i + e)) (omega arith) in
      let q : suc (i + e) ≡ i + suc e = omega arith in
      let s₁ : iterate ps (i + e) ≡ iterate ps i = still e i (omega (arith, size_turn (i + e))) in
      let s₂ : iterate ps (i + suc e) ≡ iterate ps i = still (suc e) i (omega (arith, ap (λ (x : ℕ). size (iterate ps x)) q)) in
      let r : (i + e) % events ≡ e = omega arith in
      sym (ap₂ (advance_of ps) s₁ r) ∙ sym (turn (i + e)) ∙ ap (iterate ps) q ∙ s₂
    where
      upto : (d j : ℕ) → j + d ≡ events * k + events → size (iterate ps j) ≤ size (iterate ps (events * k + events))
      upto d j g = rw g at (size_turns d j)

  closed_stays : (s : ℕ) → Closed s → (d i : ℕ) → iterate ps i ≡ s → iterate ps (i + d) ≡ s
  unfolding Closed
  closed_stays s c zero i e = let q : i + 0 ≡ i = omega arith in ap (iterate ps) q ∙ e
  closed_stays s c (suc d) i e =
      let q : i + suc d ≡ suc (i + d) = omega arith in
      ap (iterate ps) q ∙ turn (i + d) ∙ ap (λ (x : ℕ). advance_of ps x ((i + d) % events)) (closed_stays s c d i e) ∙ c ((i + d) % events) (omega arith)

  -- k passes over all events set at least k bits, unless no event changes the state any more
  rounds : (k : ℕ) → Closed (iterate ps (events * k)) ⊎ (k ≤ size (iterate ps (events * k)))
  rounds zero = inr (omega arith)
  rounds (suc k) =
      let q : events * suc k ≡ events * k + events = omega arith in
      rw q
      (⊎_elim
      (λ c. inl (rw (closed_stays (iterate ps (events * k)) c events (events * k) refl) c))
      (λ l.
      ⊎_elim
      (λ t.
      let c = still_closed k (leb-true _ _ t) in
      inl (rw (closed_stays (iterate ps (events * k)) c events (events * k) refl) c))
      (λ t. inr (omega (arith, leb-false (size (iterate ps (events * k + events))) (size (iterate ps (events * k))) t)))
      (cases (leb (size (iterate ps (events * k + events))) (size (iterate ps (events * k))))))
      (rounds k))

  -- at the fixpoint no event changes the state
  full_closed : Closed (fixpoint_of ps)
  unfolding Closed
  full_closed e h =
      ⊎_elim
      (λ c. c e h)
      (λ l.
      ⊎_elim
      (λ q. q)
      (λ g. absurd (omega (arith, count_le (bit (advance_of ps (fixpoint_of ps) e)) most_named)))
      (grows (fixpoint_of ps) e (turns_below ps m fit (most_named * events)) h))
      (rounds most_named)

  -- an event with an arrow in a state has one in every larger state
  firsts_within : (s t e : ℕ) → Within s t → firsts_in ps s e (pairs_in ps) ≡ true → firsts_in ps t e (pairs_in ps) ≡ true
  unfolding Within
  firsts_within s t e w f = firsts_recorded ps t e (λ j h q. w (bit_index ps (first_at ps j)) (first_recorded ps s e j f h q))

  -- every state that is reached is within the fixpoint
  stays_within : (s e : ℕ) → s < states_of ps → e < events → Within s (fixpoint_of ps) → blocked ps s e ≡ false → Within (arrow_of ps s e) (fixpoint_of ps)
  unfolding Within Closed
  stays_within s e h k w t =
      ⊎_elim
      (λ n i b.
      let f = firsts_within s (fixpoint_of ps) e w (open_firsts ps m fit s e h k t n) in
      let c : bit_or (fixpoint_of ps) (2 ^ bit_index ps e) ≡ fixpoint_of ps = sym (on_is ps m fit (fixpoint_of ps) e (turns_below ps m fit (most_named * events)) k ∙ rw (n, f)) ∙ full_closed e k in
      let u = ap (λ (x : ℕ). bit x i) (sym (moves_named ps m fit s e h k t n)) in
      ⊎_elim
      (λ g. w i g)
      (λ g. ap (λ (x : ℕ). bit x i) (sym c) ∙ bit_or_lem (fixpoint_of ps) (2 ^ bit_index ps e) i ∙ or_right (bit (fixpoint_of ps) i) (bit (2 ^ bit_index ps e) i) g)
      (either (bit s i) (bit (2 ^ bit_index ps e) i) (sym (bit_or_lem s (2 ^ bit_index ps e) i) ∙ u ∙ b)))
      (λ n i b. w i (ap (λ (x : ℕ). bit x i) (sym (moves_unnamed ps m fit s e h k t n)) ∙ b))
      (cases (is_named ps e))

  -- an event blocked at the fixpoint is blocked in every state within it
  blocked_within : (s e : ℕ) → s < states_of ps → e < events → Within s (fixpoint_of ps) → blocked ps (fixpoint_of ps) e ≡ true → blocked ps s e ≡ true
  blocked_within s e h k w t =
      let u = both (is_named ps e) _ (sym (blocked_is ps m fit (fixpoint_of ps) e (turns_below ps m fit (most_named * events)) k) ∙ t) in
      ⊎_elim
      (λ f. no (sym (not-true _ u.1) ∙ firsts_within s (fixpoint_of ps) e w f))
      (λ f. blocked_is ps m fit s e h k ∙ ap₂ (λ (x y : Bool). x && not y) u.0 f)
      (cases (firsts_in ps s e (pairs_in ps)))

  module _ (e : ℕ) (k : e < events) (blocked-full : blocked ps (fixpoint_of ps) e ≡ true) (es : List ℕ) where
    unreachable_from : (d s i : ℕ) → i + d ≡ length es → s < states_of ps → Within s (fixpoint_of ps) → allowed_from (made_policy ps) s (drop i es) ≡ true
        → (j : ℕ) → i ≤ j → j < length es → get_or es j 0 ≡ e → ⊥
    unreachable_from zero s i q h w a j g l v = absurd (omega arith)
    unreachable_from (suc d) s i q h w a j g l v =
        let x = get_or es i 0 in
        let c : i < length es = omega arith in
        let f = both (not (eqb (arrow (made_policy ps) s x) no_arrow)) _ (rw (drop-cons es i 0 c) at a) in
        let has = not-true _ f.0 in
        ⊎_elim
        (λ t.
        let b : x < events = ltb-true x events t in
        let is = arrow_is ps s x h b in
        let o : blocked ps s x ≡ false = ap (λ (y : ℕ). eqb y no_arrow) (sym is) ∙ has in
        ⊎_elim
        (λ r.
        let y : x ≡ e = ap (λ (z : ℕ). get_or es z 0) (sym (eqb-true j i r)) ∙ v in
        no (sym o ∙ ap (blocked ps s) y ∙ blocked_within s e h k w blocked-full))
        (λ r.
        unreachable_from d (arrow_of ps s x) (suc i) (omega arith) (moves_below ps m fit s x h b o) (stays_within s x h b w o)
        (ap (λ (y : ℕ). allowed_from (made_policy ps) y (drop (suc i) es)) (sym is) ∙ f.1) j (omega (arith, eqb-false j i r)) l v)
        (cases (eqb j i)))
        (λ t. no (sym (sym (ap (λ (y : ℕ). eqb y no_arrow) (arrow_above (made_policy ps) s x (ltb-false x events t))) ∙ has)))
        (cases (ltb x events))

  starts_within : Within 0 (fixpoint_of ps)
  unfolding Within
  starts_within k b = no (sym (bit_zero k) ∙ b)

  -- a list of events that leads to the state after i steps
  record Leads (s : ℕ) : Type 0 where
    word : List ℕ
    allows : allowed_from (made_policy ps) 0 word ≡ true
    leads : state_from (made_policy ps) 0 word ≡ s

  one_more : (pol : Policy) (s : ℕ) (es : List ℕ) (e : ℕ) → state_from pol s (es ++ (e ∷ [])) ≡ arrow pol (state_from pol s es) e
  one_more pol s [] e = refl
  one_more pol s (x ∷ es) e = one_more pol (arrow pol s x) es e

  one_more_allowed : (pol : Policy) (s : ℕ) (es : List ℕ) (e : ℕ) → allowed_from pol s es ≡ true → eqb (arrow pol (state_from pol s es) e) no_arrow ≡ false → allowed_from pol s (es ++ (e ∷ [])) ≡ true
  one_more_allowed pol s [] e t h = rw h
  one_more_allowed pol s (x ∷ es) e t h =
      let f = both (not (eqb (arrow pol s x) no_arrow)) _ t in
      join (not (eqb (arrow pol s x) no_arrow)) _ f.0 (one_more_allowed pol (arrow pol s x) es e f.1 h)

  has_arrow : (s e : ℕ) (r : Leads s) → s < states_of ps → e < events → blocked ps s e ≡ false → eqb (arrow (made_policy ps) (state_from (made_policy ps) 0 r.word) e) no_arrow ≡ false
  has_arrow s e r h k t = ap (λ (x : ℕ). eqb (arrow (made_policy ps) x e) no_arrow) r.leads ∙ ap (λ (x : ℕ). eqb x no_arrow) (arrow_is ps s e h k) ∙ t

  leads_on : (s e : ℕ) → s < states_of ps → e < events → Leads s → Leads (advance_of ps s e)
  leads_on s e h k r =
      ⊎_elim
      (λ t. record { word = r.word; allows = r.allows; leads = r.leads ∙ rw t })
      (λ t.
      record {
        word = r.word ++ (e ∷ []);
        allows = one_more_allowed (made_policy ps) 0 r.word e r.allows (has_arrow s e r h k t);
        leads = one_more (made_policy ps) 0 r.word e ∙ ap (λ (x : ℕ). arrow (made_policy ps) x e) r.leads ∙ arrow_is ps s e h k ∙ moves ps m fit s e h k t;
      })
      (cases (blocked ps s e))

  leads_turns : (i : ℕ) → Leads (iterate ps i)
  unfolding iterate
  leads_turns zero = record { word = []; allows = refl; leads = refl }
  leads_turns (suc i) = leads_on (iterate ps i) (i % events) (turns_below ps m fit i) (omega arith) (leads_turns i)

  -- an event that is not blocked at the fixpoint is in an allowed list
  heard : (e : ℕ) → e < events → blocked ps (fixpoint_of ps) e ≡ false → Unreachable ps e → ⊥
  unfolding allowed
  heard e k t u =
      let r = leads_turns (most_named * events) in
      let w = r.word in
      u (w ++ (e ∷ []))
      (one_more_allowed (made_policy ps) 0 w e r.allows (has_arrow (fixpoint_of ps) e r (turns_below ps m fit (most_named * events)) k t))
      (record { at = length w; below = omega (arith, length-append w (e ∷ [])); is = get_or_at w e [] 0 (length w) refl })

  never_laws : (e : ℕ) → UnreachableLaws ps e
  unfolding allowed
  never_laws e = record {
    event = λ t. low t;
    unreachable = λ t es a r. unreachable_from e (low t) (sym (bit_map (blocked ps (fixpoint_of ps)) events e (low t))
        ∙ t) es (length es) 0 0 (omega arith) (pow_pos (named_count ps)) starts_within a r.at (omega arith) r.below r.is;
    complete = λ k u. bit_map (blocked ps (fixpoint_of ps)) events e k ∙ ⊎_elim (λ t. t) (λ t. absurd (heard e k t u)) (cases (blocked ps (fixpoint_of ps) e));
  }
    where
      low : bit (unreachable_events ps) e ≡ true → e < events
      low t = ⊎_elim (λ l. ltb-true e events l) (λ l. no (sym (bit_high (unreachable_events ps) events e (map_lt (blocked ps (fixpoint_of ps)) events)
          (ltb-false e events l)) ∙ t)) (cases (ltb e events))

pub unreachable_allowed : UnreachableExact
unreachable_allowed ps e t = never_laws ps (map_where (is_named ps) events) (fit_right ps t) e
