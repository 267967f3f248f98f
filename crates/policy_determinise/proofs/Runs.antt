-- A set of states contains exactly the ends of the drawing's paths.
use Prim.Native.Nat.{ℕ, zero, suc, ◌+◌, ◌*◌, ◌/◌, ◌%◌, ◌^◌, ◌<◌, ◌≤◌}
use mathlib.Core.Path.{◌≡◌, refl, sym, ap, ◌∙◌}
use mathlib.Core.Bool.{Bool, true, false, ◌&&◌, ◌||◌, not, cond}
use mathlib.Core.List.{List, [], ◌∷◌}
use mathlib.Core.Logic.{⊎_elim}
use native.Mathlib.Omega.{arith}
use native.Mathlib.Nat.{pow-suc}
use lib.Dec.{eqb, leb, ltb}
use lib.Pow.{pow_pos, shr-shr}
use lib.Bits.{bit_or, or_lt}
use lib.ListN.{length, get_or}
use borrow.Author.Tests.{ltb-true, ltb-false, eqb-true, eqb-false, leb-true, le-ltb, ne_eqb, not-true}
use Rattle.types.specs.Names.{events}
use Rattle.spec.specs.Policies.{states_right, allowed}
use Rattle.spec.proofs.Bools.{no, both, join, either, or_left, or_right}
use Rattle.policy_spec.specs.maps.Maps.{bit}
use Rattle.policy_spec.proofs.maps.Maps.{bit_or_lem, bit_zero, bit_high}
use Rattle.policy_spec.specs.reachability.Reach.{node_after}
use Rattle.policy_spec.specs.reachability.Claims.{Arrows}
use Rattle.policy_spec.proofs.reachability.Reach.{nodes_exact, taken_reaches, reach_right, allowed_reaches}
use Rattle.policy_determinise.specs.Drawings.{Drawing, ValidDrawing, successors, union_of, set_after, maps_right, drawing_right, made_policy, determinise_of, determinise_table}
use Rattle.policy_determinise.specs.Claims.{WritesPolicy, TakenWritesPolicy, MadeRight, DrawingPath, ends, goes, Followed, AllowedRuns, SetsAreEnds, SetsExact}

maps_at : (s : ℕ) (ms : List ℕ) (i : ℕ) → 0 < 2 ^ s → maps_right s ms ≡ true → get_or ms i 0 < 2 ^ s
maps_at s [] i p e = p
maps_at s (m ∷ ms) zero p e = ltb-true m (2 ^ s) (both (ltb m (2 ^ s)) (maps_right s ms) e).0
maps_at s (m ∷ ms) (suc i) p e = maps_at s ms i p (both (ltb m (2 ^ s)) (maps_right s ms) e).1

pub fit_of : (d : Drawing) → drawing_right d ≡ true → ValidDrawing d
unfolding drawing_right
fit_of d t =
    let m = both (states_right d.states && not (eqb d.starts 0) && eqb (length d.arrows) (events * d.states)) (maps_right d.states (d.starts ∷ d.arrows)) t in
    let l = both (states_right d.states && not (eqb d.starts 0)) (eqb (length d.arrows) (events * d.states)) m.0 in
    let q = both (states_right d.states) (not (eqb d.starts 0)) l.0 in
    let s = both (leb 1 d.states) (leb d.states 16) q.0 in
    record {
      some_states = leb-true 1 d.states s.0;
      few_states = leb-true d.states 16 s.1;
      starts_some = eqb-false d.starts 0 (not-true (eqb d.starts 0) q.1);
      starts_below = maps_at d.states (d.starts ∷ d.arrows) 0 (pow_pos d.states) m.1;
      size = eqb-true (length d.arrows) (events * d.states) l.1;
      below = λ i. maps_at d.states (d.starts ∷ d.arrows) (suc i) (pow_pos d.states) m.1;
    }

-- ---- bits

-- a set that is not 0 has a bit
pub record Bit (m : ℕ) : Type 0 where
  pub at : ℕ
  pub set : bit m at ≡ true

bit_double : (m k : ℕ) → bit m (suc k) ≡ bit (m / 2) k
unfolding bit
bit_double m k = let e : 1 + k ≡ suc k = omega arith in ap (λ (x : ℕ). eqb (x % 2) 1) (sym (shr-shr m 1 k ∙ ap (λ (x : ℕ). m / 2 ^ x) e))

pub bit_some : (n m : ℕ) → m < 2 ^ n → (m ≡ 0 → ⊥) → Bit m
unfolding bit
bit_some zero m h z = absurd (z (omega arith))
bit_some (suc n) m h z = go (eqb (m % 2) 1) refl (bit_some n (m / 2) (omega (arith, pow-suc 2 n)))
  where
    go : (b : Bool) → eqb (m % 2) 1 ≡ b → ((m / 2 ≡ 0 → ⊥) → Bit (m / 2)) → Bit m
    go true e r = record { at = 0; set = let o : m / 1 ≡ m = omega arith in rw o e }
    go false e r = let f = r (λ y. z (omega (arith, eqb-false (m % 2) 1 e))) in record { at = suc f.at; set = bit_double m f.at ∙ f.set }

-- ---- the union

bit_pick : (b : Bool) (m t : ℕ) → bit (cond b m 0) t ≡ (b && bit m t)
bit_pick true m t = refl
bit_pick false m t = bit_zero t

pub union_bit : (ms : List ℕ) (x n k t : ℕ) → bit (union_of ms x n (suc k)) t ≡ (bit (union_of ms x n k) t || (bit x k && bit (successors ms k n) t))
unfolding union_of
union_bit ms x n k t = bit_or_lem (union_of ms x n k) (cond (bit x k) (successors ms k n) 0) t ∙ ap (λ (b : Bool). bit (union_of ms x n k) t || b) (bit_pick (bit x k) (successors ms k n) t)

-- a state of the set x from which event n leads to t
pub record Before (ms : List ℕ) (x n t : ℕ) : Type 0 where
  pub state : ℕ
  pub inside : bit x state ≡ true
  pub arrow : bit (successors ms state n) t ≡ true

pub union_from : (ms : List ℕ) (x n k t : ℕ) → bit (union_of ms x n k) t ≡ true → Before ms x n t
unfolding union_of
union_from ms x n zero t e = no (sym (bit_zero t) ∙ e)
union_from ms x n (suc k) t e =
    ⊎_elim
    (union_from ms x n k t)
    (λ f. let p = both (bit x k) (bit (successors ms k n) t) f in record { state = k; inside = p.0; arrow = p.1 })
    (either (bit (union_of ms x n k) t) (bit x k && bit (successors ms k n) t) (sym (union_bit ms x n k t) ∙ e))

pub union_to : (ms : List ℕ) (x n k s t : ℕ) → s < k → bit x s ≡ true → bit (successors ms s n) t ≡ true → bit (union_of ms x n k) t ≡ true
union_to ms x n zero s t h a b = absurd (omega arith)
union_to ms x n (suc k) s t h a b = union_bit ms x n k t ∙ go (eqb s k) refl (λ l. union_to ms x n k s t l a b)
  where
    go : (c : Bool) → eqb s k ≡ c → (s < k → bit (union_of ms x n k) t ≡ true) → (bit (union_of ms x n k) t || (bit x k && bit (successors ms k n) t)) ≡ true
    go true e r =
        let f : (bit x k && bit (successors ms k n) t) ≡ true = ap (λ (y : ℕ). bit x y && bit (successors ms y n) t) (sym (eqb-true s k e)) ∙ join (bit x s) (bit (successors ms s n) t) a b in
        or_right (bit (union_of ms x n k) t) (bit x k && bit (successors ms k n) t) f
    go false e r = or_left (bit (union_of ms x n k) t) (bit x k && bit (successors ms k n) t) (r (omega (arith, eqb-false s k e)))

-- ---- a right drawing

pub bit_below : (m n t : ℕ) → m < 2 ^ n → bit m t ≡ true → t < n
bit_below m n t h e = go (ltb t n) refl
  where
    go : (b : Bool) → ltb t n ≡ b → t < n
    go true f = ltb-true t n f
    go false f = no (sym (bit_high m n t h (ltb-false t n f)) ∙ e)

pub union_none : (ms : List ℕ) (n k : ℕ) → union_of ms 0 n k ≡ 0
unfolding union_of
union_none ms n zero = refl
union_none ms n (suc k) = rw (union_none ms n k, bit_zero k)

pub union_above : (ms : List ℕ) (x n k : ℕ) → events ≤ n → union_of ms x n k ≡ 0
unfolding union_of
union_above ms x n zero h = refl
union_above ms x n (suc k) h = rw (union_above ms x n k h, le-ltb n events h) (go (bit x k))
  where
    go : (b : Bool) → bit_or 0 (cond b 0 0) ≡ 0
    go true = refl
    go false = refl

module _ (d : Drawing) (fit : ValidDrawing d) where
  pub successors_below : (s n : ℕ) → successors d.arrows s n < 2 ^ d.states
  successors_below s n = go (ltb n events)
    where
      go : (b : Bool) → cond b (get_or d.arrows (events * s + n) 0) 0 < 2 ^ d.states
      go true = fit.below (events * s + n)
      go false = pow_pos d.states

  pub union_below : (x n k : ℕ) → union_of d.arrows x n k < 2 ^ d.states
  unfolding union_of
  union_below x n zero = pow_pos d.states
  union_below x n (suc k) = or_lt d.states (union_of d.arrows x n k) (cond (bit x k) (successors d.arrows k n) 0) (union_below x n k) (go (bit x k))
    where
      go : (b : Bool) → cond b (successors d.arrows k n) 0 < 2 ^ d.states
      go true = successors_below k n
      go false = pow_pos d.states

  after_below : (es : List ℕ) (x : ℕ) → x < 2 ^ d.states → node_after (set_after d) x es < 2 ^ d.states
  after_below [] x h = h
  after_below (n ∷ es) x h = after_below es (set_after d x n) (union_below x n d.states)

  pub arrows : Arrows (set_after d) d.starts
  arrows = record { none = λ n. union_none d.arrows n d.states; above = λ x n h. union_above d.arrows x n d.states h; start = fit.starts_some }

  -- a state of a set from which a list of events leads to t
  record From (x : ℕ) (es : List ℕ) (t : ℕ) : Type 0 where
    pub state : ℕ
    pub inside : bit x state ≡ true
    pub way : DrawingPath d state es t

  way_from : (es : List ℕ) (x t : ℕ) → bit (node_after (set_after d) x es) t ≡ true → From x es t
  way_from [] x t e = record { state = t; inside = e; way = ends }
  way_from (n ∷ es) x t e =
      let f = way_from es (set_after d x n) t e in
      let b = union_from d.arrows x n d.states f.state f.inside in
      record { state = b.state; inside = b.inside; way = goes f.state b.arrow f.way }

  way_to : (es : List ℕ) (x s t : ℕ) → s < d.states → bit x s ≡ true → DrawingPath d s es t → bit (node_after (set_after d) x es) t ≡ true
  way_to [] x s t h e ends = e
  way_to (n ∷ es) x s t h e (goes u a w) = way_to es (set_after d x n) u t (bit_below (successors d.arrows s n) d.states u (successors_below s n) a)
      (union_to d.arrows x n d.states s u h e a) w

pub sets_are_ends : SetsAreEnds
sets_are_ends d es t r =
    let fit = fit_of d r in
    record {
      ends = λ e. let f = way_from d fit es d.starts t e in record { from = f.state; starts = f.inside; way = f.way };
      holds = λ u. way_to d fit es d.starts u.from t (bit_below d.starts d.states u.from fit.starts_below u.starts) u.starts u.way;
    }

pub allowed_runs : AllowedRuns
allowed_runs d es r t = record { follows = follows; allows = allows }
  where
    fit : ValidDrawing d
    fit = fit_of d r

    set : ℕ
    set = node_after (set_after d) d.starts es

    is : allowed (made_policy d) es ≡ not (eqb set 0)
    is = allowed_reaches (set_after d) d.starts es (arrows d fit) t

    follows : allowed (made_policy d) es ≡ true → Followed d es
    follows a =
        let b = bit_some d.states set (after_below d fit es d.starts fit.starts_below) (eqb-false set 0 (not-true (eqb set 0) (sym is ∙ a))) in
        record { end = b.at; run = (sets_are_ends d es b.at r).ends b.set }

    allows : Followed d es → allowed (made_policy d) es ≡ true
    allows f =
        let b : bit set f.end ≡ true = (sets_are_ends d es f.end r).holds f.run in
        is ∙ rw (ne_eqb set 0 (λ z. no (sym (bit_zero f.end) ∙ ap (λ (x : ℕ). bit x f.end) (sym z) ∙ b)))

pub made_right : MadeRight
made_right d lay r t e = reach_right (set_after d) d.starts lay (arrows d (fit_of d r)) t e

pub sets_exact : SetsExact
sets_exact d r = nodes_exact (set_after d) d.starts (arrows d (fit_of d r))

pub taken_writes_policy : TakenWritesPolicy
unfolding determinise_of determinise_table
taken_writes_policy d table t = go (drawing_right d) refl
  where
    go : (b : Bool) → drawing_right d ≡ b → WritesPolicy d table
    go false e = absurd (omega (arith, rw e at t))
    go true e =
        let m = taken_reaches (set_after d) d.starts table (rw e at t) in
        record { right = e; few = m.few; states = rw e m.states; start = rw e m.start; leaves = rw e m.leaves }
