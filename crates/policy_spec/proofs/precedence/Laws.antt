-- Laws of the functions, one for each return.
use Prim.Native.Nat.{ℕ, zero, suc, ◌+◌, ◌-◌, ◌*◌, ◌/◌, ◌%◌, ◌^◌, ◌<◌, ◌≤◌}
use mathlib.Core.Path.{◌≡◌, refl, sym, ap, ◌∙◌}
use mathlib.Core.Bool.{Bool, true, false, ◌&&◌, ◌||◌, not, cond, and-false}
use mathlib.Core.List.{List, [], ◌∷◌, ◌++◌}
use native.Mathlib.Omega.{arith}
use native.Mathlib.Nat.{mod-eq_of_lt}
use lib.Bits.{bit_and, bit_or, and_mask, mask_lt, or_lt}
use lib.Count.{ones, ones-le}
use lib.Dec.{eqb, leb, ltb}
use lib.ListN.{length, get_or, drop}
use Rattle.std.specs.List.{list_all}
use Rattle.std.specs.Option.{is_none, unwrap_or}
use Rattle.std.proofs.Common.{Option, Some, None, Result, Ok, Err}
use Rattle.std.specs.Result.{IsErrAnd}
use Rattle.types.specs.declared.Refusal.{Refusal}
use Rattle.types.specs.declared.Reject.{Reject}
use Rattle.types.specs.Results.{reject_at}
use Rattle.policy_spec.specs.declared.precedence.PrecedencePolicy.{PrecedencePolicy}
use Rattle.policy_spec.specs.precedence.Results.{precedence_of}
use borrow.Author.Tests.{ltb-true, eq-eqb, ne_eqb, lt-ltb, le-ltb, le-leb, lt-leb}
use lib.Pow.{pow-lt, pow_pos, pow_mono}
use Rattle.types.specs.declared.Refusal.TheVariants.{SmallOutput, BadPair}
use Rattle.types.specs.Names.{events, no_arrow, answer, refusal}
use Rattle.policy_spec.specs.maps.Maps.{every, some, map_where, bit}
use Rattle.policy_spec.specs.tables.Arrows.{arrow_from}
use Rattle.policy_spec.proofs.tables.Arrows.{no_arrow_is_none, arrow_or, arrow_some}
use Rattle.policy_spec.specs.precedence.Precedence.{PrecedenceResult, ValidPairs, named_in, is_named, known_in, events_known, most_named, first_at, pairs_in, bit_index}
use Rattle.policy_spec.specs.precedence.Precedence.{firsts_in, states_of, table_bytes, named_count, arrow_of, byte_of, blocked, advance_of, iterate}
use Rattle.policy_spec.specs.precedence.Precedence.{table_of, fixpoint_of, unreachable_events, pairs_right, make_answer, precedence_result, make_of, make_table}
use Rattle.policy_spec.proofs.maps.Maps.{every_at, every_none, every_first, map_or, map_one, map_low, map_ones, bit_map, count_less, map_lt, length_build}

-- what a test of every number of a list tests
pub every_listed : (p : ℕ → Bool) (ps : List ℕ) → list_all p ps ≡ every (λ j. p (get_or ps j 0)) (length ps)
every_listed p [] = sym (every_none (λ j. p 0))
every_listed p (x ∷ ps) = ap (λ (b : Bool). p x && b) (every_listed p ps) ∙ sym (every_first (λ j. p (get_or (x ∷ ps) j 0)) (length ps))

pub known_is : (ps : List ℕ) → list_all (λ e. ltb e events) ps ≡ events_known ps
unfolding known_in
known_is ps = every_listed (λ e. ltb e events) ps

pub event_below : (ps : List ℕ) → events_known ps ≡ true → (i : ℕ) → i < length ps → get_or ps i 0 < events
unfolding known_in
event_below ps e i h = ltb-true (get_or ps i 0) events (every_at _ (length ps) i e h)

-- 1 shifted by k in 64 bits is 2 ^ k
pub shifted : (k : ℕ) → k < events → (1 * 2 ^ k) % 2 ^ 64 ≡ 2 ^ k
shifted k h = let o : 1 * 2 ^ k ≡ 2 ^ k = omega arith in rw o (mod-eq_of_lt (pow-lt {i = k} {j = 64} (omega arith)))

pub names_none : (ps : List ℕ) → 0 ≡ map_where (named_in ps 0) events
unfolding named_in some map_where
names_none ps = refl

-- one more event named
pub names_more : (ps : List ℕ) (i m x : ℕ) → m ≡ map_where (named_in ps i) events → x ≡ get_or ps i 0 → x < events → bit_or m ((1 * 2 ^ x) % 2 ^ 64) ≡ map_where (named_in ps (i + 1)) events
unfolding named_in some
names_more ps i m x e f h =
    let n : i + 1 ≡ suc i = omega arith in
    rw (n, e, shifted x h, ← map_one x events h, f) (map_or (named_in ps i) (eqb (get_or ps i 0)) events)

-- how many bits of a set are below bit e
abbrev pub ones_below : ℕ → ℕ → ℕ
ones_below m e = ones (bit_and m (2 ^ e - 1))

pub few_below : (m e : ℕ) → ones_below m e ≤ e
few_below m e = ones-le e (bit_and m (2 ^ e - 1)) (mask_lt m e)

pub below_is : (m e : ℕ) → e < events → (ones (bit_and m ((1 * 2 ^ e) % 2 ^ 64 - 1)) ≡ ones_below m e) × (ones (bit_and m ((1 * 2 ^ e) % 2 ^ 64 - 1)) ≤ e)
below_is m e h = rw (shifted e h) (refl, few_below m e)

module _ (ps : List ℕ) (m : ℕ) (fit : ValidPairs ps m) where
  -- an event's bit index is the number of named events below it
  pub place_is : (e k : ℕ) → e < events → k ≡ ones_below m e → k ≡ bit_index ps e
  place_is e k h f =
      let s : e + (events - e) ≡ events = omega arith in
      let l : map_where (is_named ps) events % 2 ^ e ≡ map_where (is_named ps) e = rw s at (map_low (is_named ps) (events - e) e) in
      f ∙ ap ones (and_mask m e ∙ ap (λ (x : ℕ). x % 2 ^ e) fit.map ∙ l) ∙ map_ones (is_named ps) e

  pub named_is : (e : ℕ) → e < events → bit m e ≡ is_named ps e
  named_is e h = ap (λ (x : ℕ). bit x e) fit.map ∙ bit_map (is_named ps) events e h

  -- a named event has one of the bits 0 to 3
  pub place_less : (e : ℕ) → e < events → is_named ps e ≡ true → bit_index ps e < most_named
  place_less e h t = omega (arith, count_less (is_named ps) events e h t, fit.few)

  pub first_below : (i y : ℕ) → i < length ps / 2 → y ≡ get_or ps (2 * i) 0 → y < events
  first_below i y h e = rw e (event_below ps fit.below (2 * i) (omega arith))

  pub bit_below : (i y k : ℕ) → i < length ps / 2 → y ≡ get_or ps (2 * i) 0 → k ≤ y → k < events
  bit_below i y k h e l = omega (arith, first_below i y h e)

  pub firsts_more : (s e i x y k : ℕ) (ok b : Bool) → i < length ps / 2 → ok ≡ firsts_in ps s e i → x ≡ get_or ps (2 * i + 1) 0 → y ≡ get_or ps (2 * i) 0 → k ≡ ones_below m y → b ≡ bit s k
      → (ok && (not (eqb x e) || b)) ≡ firsts_in ps s e (i + 1)
  unfolding firsts_in every
  firsts_more s e i x y k ok b h f g₁ g₂ q r =
      let n : i + 1 ≡ suc i = omega arith in
      let p : k ≡ bit_index ps (first_at ps i) = place_is y k (first_below i y h g₂) q ∙ ap (bit_index ps) g₂ in
      rw (n, f, g₁, r, p)

pub firsts_none : (ps : List ℕ) (s e : ℕ) → firsts_in ps s e 0 ≡ true
unfolding firsts_in every
firsts_none ps s e = refl

-- ---- arrows

module _ (ps : List ℕ) (m : ℕ) (fit : ValidPairs ps m) where
  pub states_most : states_of ps ≤ 16
  states_most = pow_mono {i = named_count ps} {j = most_named} fit.few

  module _ (s e : ℕ) (h : s < states_of ps) (k : e < events) (b : Bool) (g : b ≡ bit m e) where
    pub arrow_stays : b ≡ false → Some s ≡ arrow_from (arrow_of ps s e)
    unfolding arrow_of
    arrow_stays f =
        let n : is_named ps e ≡ false = sym (named_is ps m fit e k) ∙ sym g ∙ f in
        rw n (sym (arrow_some s (λ z. omega (arith, states_most))))

    module _ (f : b ≡ true) (r : Bool) (q : r ≡ firsts_in ps s e (pairs_in ps)) where
      is_named_lem : is_named ps e ≡ true
      is_named_lem = sym (named_is ps m fit e k) ∙ sym g ∙ f

      pub arrow_goes : r ≡ true → (x : ℕ) → x ≡ ones_below m e → Some (bit_or s ((1 * 2 ^ x) % 2 ^ 64)) ≡ arrow_from (arrow_of ps s e)
      unfolding arrow_of
      arrow_goes t x y =
          let z : x ≡ bit_index ps e = place_is ps m fit e x k y in
          let l : bit_index ps e < most_named = place_less ps m fit e k is_named_lem in
          let w : firsts_in ps s e (pairs_in ps) ≡ true = sym q ∙ t in
          let low : bit_or s (2 ^ bit_index ps e) < 2 ^ 4 = or_lt 4 s (2 ^ bit_index ps e) (omega (arith, states_most)) (pow-lt {i = bit_index ps e} {j = 4} l) in
          rw (z, shifted (bit_index ps e) (omega arith), is_named_lem, w) (sym (arrow_some (bit_or s (2 ^ bit_index ps e)) (λ z. omega (arith, low))))

      pub arrow_none : r ≡ false → None ≡ arrow_from (arrow_of ps s e)
      unfolding arrow_of
      arrow_none t =
          let w : firsts_in ps s e (pairs_in ps) ≡ false = sym q ∙ t in
          rw (is_named_lem, w)

  -- the state after a named event is a state
  pub sets_below : (s e : ℕ) → s < states_of ps → e < events → is_named ps e ≡ true → bit_or s (2 ^ bit_index ps e) < states_of ps
  sets_below s e h k n = or_lt (named_count ps) s (2 ^ bit_index ps e) h (pow-lt {i = bit_index ps e} {j = named_count ps} (count_less (is_named ps) events e k n))

  -- an event sets its bit exactly if it is named and its firsts are recorded; else the state stays
  pub on_is : (s e : ℕ) → s < states_of ps → e < events → advance_of ps s e ≡ cond (is_named ps e && firsts_in ps s e (pairs_in ps)) (bit_or s (2 ^ bit_index ps e)) s
  unfolding arrow_of
  on_is s e h k = go (is_named ps e) (firsts_in ps s e (pairs_in ps)) refl
    where
      pick : ℕ → ℕ
      pick a = cond (eqb a no_arrow) s a

      go : (n f : Bool) → is_named ps e ≡ n → pick (cond n (cond f (bit_or s (2 ^ bit_index ps e)) no_arrow) s) ≡ cond (n && f) (bit_or s (2 ^ bit_index ps e)) s
      go true true t = rw (ne_eqb (bit_or s (2 ^ bit_index ps e)) no_arrow (λ z. omega (arith, sets_below s e h k t, states_most)))
      go true false t = refl
      go false f t = rw (ne_eqb s no_arrow (λ z. omega (arith, states_most)))

  -- an event has no arrow exactly if it is named and one of its firsts is not recorded
  pub blocked_is : (s e : ℕ) → s < states_of ps → e < events → blocked ps s e ≡ (is_named ps e && not (firsts_in ps s e (pairs_in ps)))
  unfolding arrow_of
  blocked_is s e h k = go (is_named ps e) (firsts_in ps s e (pairs_in ps)) refl
    where
      go : (n f : Bool) → is_named ps e ≡ n → eqb (cond n (cond f (bit_or s (2 ^ bit_index ps e)) no_arrow) s) no_arrow ≡ (n && not f)
      go true true t = ne_eqb (bit_or s (2 ^ bit_index ps e)) no_arrow (λ z. omega (arith, sets_below s e h k t, states_most))
      go true false t = refl
      go false f t = ne_eqb s no_arrow (λ z. omega (arith, states_most))

  pub on_below : (s e : ℕ) → s < states_of ps → e < events → advance_of ps s e < states_of ps
  on_below s e h k = rw (on_is s e h k) (go (is_named ps e) (firsts_in ps s e (pairs_in ps)) refl)
    where
      go : (n f : Bool) → is_named ps e ≡ n → cond (n && f) (bit_or s (2 ^ bit_index ps e)) s < states_of ps
      go true true t = sets_below s e h k t
      go true false t = h
      go false f t = h

  -- an entry is a byte
  pub arrow_fits : (s e : ℕ) → s < states_of ps → e < events → arrow_of ps s e < 256
  unfolding arrow_of
  arrow_fits s e h k = go (is_named ps e) (firsts_in ps s e (pairs_in ps)) refl
    where
      go : (n f : Bool) → is_named ps e ≡ n → cond n (cond f (bit_or s (2 ^ bit_index ps e)) no_arrow) s < 256
      go true true t = omega (arith, sets_below s e h k t, states_most)
      go true false t = omega arith
      go false f t = omega (arith, states_most)

  pub turns_below : (i : ℕ) → iterate ps i < states_of ps
  unfolding iterate
  turns_below zero = pow_pos (named_count ps)
  turns_below (suc i) = on_below (iterate ps i) (i % events) (turns_below i) (omega arith)

  pub turned : (s i : ℕ) → s ≡ iterate ps i → s < states_of ps
  turned s i e = rw e (turns_below i)

-- ---- the table

pub row_below : (ps : List ℕ) (i n : ℕ) → n ≡ table_bytes ps → i < n → i / events < states_of ps
row_below ps i n e h = omega arith

-- ---- iteration and blocked events

pub turns_none : (ps : List ℕ) → 0 ≡ iterate ps 0
unfolding iterate
turns_none ps = refl

-- one more step: the state after the event if it has an arrow
pub turns_more : (ps : List ℕ) (s i : ℕ) (o : Option ℕ) → s ≡ iterate ps i → o ≡ arrow_from (arrow_of ps s (i % events)) → unwrap_or o s ≡ iterate ps (i + 1)
unfolding iterate
turns_more ps s i o e g =
    let n : i + 1 ≡ suc i = omega arith in
    rw (n, g, arrow_or (arrow_of ps s (i % events)) s) (ap (λ (x : ℕ). advance_of ps x (i % events)) e)

pub all_none : (p : ℕ → Bool) → 0 ≡ map_where p 0
unfolding map_where
all_none p = refl

-- one more event that has no arrow, or that has one
module _ (ps : List ℕ) (s e m : ℕ) (o : Option ℕ) (f : m ≡ map_where (blocked ps s) e) (g : o ≡ arrow_from (arrow_of ps s e)) where
  is : is_none o ≡ blocked ps s e
  is = ap is_none g ∙ no_arrow_is_none (arrow_of ps s e)

  pub all_with : is_none o ≡ true → e < events → m + (1 * 2 ^ e) % 2 ^ 64 ≡ map_where (blocked ps s) (e + 1)
  unfolding map_where
  all_with t h = let n : e + 1 ≡ suc e = omega arith in rw (n, f, shifted e h, sym is ∙ t)

  pub all_without : is_none o ≡ false → m ≡ map_where (blocked ps s) (e + 1)
  unfolding map_where
  all_without t = let n : e + 1 ≡ suc e = omega arith in rw (n, f, sym is ∙ t) (omega arith)

pub all_fits : (p : ℕ → Bool) (e m : ℕ) → m ≡ map_where p e → e < events → m + (1 * 2 ^ e) % 2 ^ 64 < 2 ^ 64
all_fits p e m f h =
    let b : 2 ^ e < 2 ^ events = pow-lt {i = e} {j = events} h in
    rw (shifted e h) (omega (arith, map_lt p e, ap (λ (x : ℕ). x) f))

-- ---- right pairs

module _ (ps : List ℕ) where
  pub unknown_wrong : events_known ps ≡ false → pairs_right ps ≡ false
  unfolding pairs_right
  unknown_wrong e = rw e

  pub odd_wrong : (length ps % 2 ≡ 0 → ⊥) → pairs_right ps ≡ false
  unfolding pairs_right
  odd_wrong z = rw (ne_eqb (length ps % 2) 0 z) (ap (λ (b : Bool). b && leb (named_count ps) most_named) (and-false (events_known ps)))

  module _ (m : ℕ) (e : m ≡ map_where (is_named ps) events) where
    pub ones_are : ones m ≡ named_count ps
    ones_are = ap ones e ∙ map_ones (is_named ps) events

    pub ones_fit : ones m < 2 ^ 64
    ones_fit = rw e (omega (arith, ones-le events (map_where (is_named ps) events) (map_lt (is_named ps) events)))

    module _ (known : events_known ps ≡ true) where
      pub few_right : length ps % 2 ≡ 0 → ones m ≤ most_named → pairs_right ps ≡ true
      unfolding pairs_right
      few_right even h = rw (known, eq-eqb (length ps % 2) 0 even, le-leb (named_count ps) most_named (omega (arith, ones_are)))

      pub many_wrong : most_named < ones m → pairs_right ps ≡ false
      unfolding pairs_right
      many_wrong h = rw (lt-leb (named_count ps) most_named (omega (arith, ones_are))) (and-false (events_known ps && eqb (length ps % 2) 0))

      pub pairs_valid : ones m ≤ most_named → ValidPairs ps m
      pairs_valid h = record { below = known; few = omega (arith, ones_are); map = e }

  module _ (m : ℕ) (fit : ValidPairs ps m) where
    pub ones_few : ones m ≤ most_named
    ones_few = omega (arith, ones_are m fit.map, fit.few)

    pub states_are : (1 * 2 ^ ones m) % 2 ^ 64 ≡ states_of ps
    states_are = shifted (ones m) (omega (arith, ones_few)) ∙ ap (λ (x : ℕ). 2 ^ x) (ones_are m fit.map)

-- ---- making

module _ (ps t : List ℕ) where
  -- what is answered and written
  abbrev pub Makes : PrecedenceResult → List ℕ → Type 0
  Makes made t' = record { made : made ≡ make_of ps (length t); table : t' ≡ make_table ps t }

  pub no_pairs : pairs_right ps ≡ false → Makes (precedence_result (refusal BadPair 0) 0 0) t
  unfolding make_of make_table make_answer
  no_pairs e = rw e (record { made = refl; table = refl })

  module _ (right : pairs_right ps ≡ true) where
    pub no_room : length t < table_bytes ps → Makes (precedence_result (refusal SmallOutput 0) 0 0) t
    unfolding make_of make_table make_answer
    no_room h = rw (right, lt-ltb (length t) (table_bytes ps) h) (record { made = refl; table = refl })

    pub makes : table_bytes ps ≤ length t → Makes (precedence_result (answer 0 (table_bytes ps)) (states_of ps) (unreachable_events ps)) (table_of ps ++ drop (table_bytes ps) t)
    unfolding make_of make_table make_answer
    makes h = rw (right, le-ltb (length t) (table_bytes ps) h, length_build (byte_of ps) (table_bytes ps)) (record { made = refl; table = refl })

-- a refusal that `?` hands on
pub handed_on : (r : Result PrecedencePolicy Reject) (e : Refusal) → IsErrAnd r (λ x. x ≡ reject_at e 0) → precedence_of r ≡ precedence_result (refusal e 0) 0 0
handed_on (Ok m) e h = absurd h
handed_on (Err x) e h = rw h

pub unreachable_fits : (ps : List ℕ) → unreachable_events ps < 2 ^ 16
unreachable_fits ps = map_lt (blocked ps (fixpoint_of ps)) events
