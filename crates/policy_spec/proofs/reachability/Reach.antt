-- The nodes found are exactly those that can be reached, each once. Their policy is right and allows what leads to a node.
use Prim.Native.Nat.{ℕ, zero, suc, ◌+◌, ◌-◌, ◌*◌, ◌/◌, ◌%◌, ◌<◌, ◌≤◌}
use mathlib.Core.Path.{◌≡◌, refl, sym, ap, ap₂, ◌∙◌}
use mathlib.Core.Bool.{Bool, true, false, ◌&&◌, not}
use mathlib.Core.List.{List, [], ◌∷◌, ◌++◌, append_assoc}
use native.Mathlib.Omega.{arith}
use lib.Dec.{eqb, ltb}
use lib.ListN.{length, get_or, drop, length-append, get_or-append, get_or-eq_default}
use lib.Seq.{get_or-append_seam, take_at}
use borrow.Author.Tests.{ltb-true, ltb-false, leb-true, leb-false, eqb-true, eqb-false, eq-eqb, ne_eqb, lt-ltb}
use Rattle.types.specs.Names.{most_states, events, no_arrow}
use Rattle.spec.specs.Policies.{arrow, allowed_from, allowed, entry_right, right_policy}
use Rattle.policy_spec.proofs.maps.Maps.{length_build, build_at}
use Rattle.policy_spec.proofs.maps.Tables.{entries_build}
use Rattle.policy_spec.specs.reachability.Reach.{index_of, insert, target, reached_by, nodes, node_state, byte_of, states_of, table_of, reached_policy}
use Rattle.policy_spec.specs.reachability.Reach.{nodes_fit, reach_answer, reach_of, reach_table, node_after}
use Rattle.policy_spec.specs.reachability.Claims.{Arrows, Reached, Exactly, NodesExact, WritesPolicy, TakenReaches, ReachRight, AllowedReaches}
use Rattle.policy_spec.proofs.reachability.Places.{pigeonhole, place_at, place_of, place_append, place_new, Inserts, none, again, anew, inserts, insert_none, reached_known, More, insert_more}
use Rattle.spec.proofs.Bools.{or_left, or_right}

-- after one more event
pub after_snoc : (next : ℕ → ℕ → ℕ) (x : ℕ) (es : List ℕ) (e : ℕ) → node_after next x (es ++ (e ∷ [])) ≡ next (node_after next x es) e
after_snoc next x [] e = refl
after_snoc next x (d ∷ es) e = after_snoc next (next x d) es e

-- from 0 no node is reached
pub after_none : (next : ℕ → ℕ → ℕ) → ((e : ℕ) → next 0 e ≡ 0) → (es : List ℕ) → node_after next 0 es ≡ 0
after_none next z [] = refl
after_none next z (e ∷ es) = ap (λ (x : ℕ). node_after next x es) (z e) ∙ after_none next z es

-- each node of the list can be reached, and its index is its number
pub record ReachInvariant (next : ℕ → ℕ → ℕ) (q : ℕ) (ns : List ℕ) : Type 0 where
  pub reached : (i : ℕ) → i < length ns → Reached next q (get_or ns i 0)
  pub own : (i : ℕ) → i < length ns → index_of ns (get_or ns i 0) ≡ i

pub reached_zero : (next : ℕ → ℕ → ℕ) (q : ℕ) → reached_by next q 0 ≡ q ∷ []
unfolding reached_by
reached_zero next q = refl

pub reached_suc : (next : ℕ → ℕ → ℕ) (q k : ℕ) → reached_by next q (suc k) ≡ insert (reached_by next q k) (target next (reached_by next q k) k)
unfolding reached_by
reached_suc next q k = refl

module _ (next : ℕ → ℕ → ℕ) (q : ℕ) (ok : Arrows next q) where
  invariant-start : ReachInvariant next q (q ∷ [])
  invariant-start = record { reached = r; own = o }
    where
      r : (i : ℕ) → i < 1 → Reached next q (get_or (q ∷ []) i 0)
      r zero h = record { by = []; leads = refl; node = ok.start }
      r (suc i) h = absurd (omega arith)

      o : (i : ℕ) → i < 1 → index_of (q ∷ []) (get_or (q ∷ []) i 0) ≡ i
      o zero h = rw (eq-eqb q q refl)
      o (suc i) h = absurd (omega arith)

  invariant-insert : (ns : List ℕ) (x : ℕ) → ReachInvariant next q ns → ((x ≡ 0 → ⊥) → Reached next q x) → ReachInvariant next q (insert ns x)
  invariant-insert ns x g t = go (insert ns x) (inserts ns x)
    where
      one_more : (i : ℕ) (P : ℕ → ℕ → Type 0) → length ns ≤ index_of ns x → (i < length ns → P (get_or ns i 0) i) → P x (length ns) → i < length (ns ++ (x ∷ [])) → P (get_or (ns ++ (x ∷ [])) i 0) i
      one_more i P k f p h = pick (eqb i (length ns)) refl
        where
          pick : (b : Bool) → eqb i (length ns) ≡ b → P (get_or (ns ++ (x ∷ [])) i 0) i
          pick true e = rw (eqb-true i (length ns) e, get_or-append_seam ns x [] 0) p
          pick false e = let l : i < length ns = omega (arith, eqb-false i (length ns) e, length-append ns (x ∷ [])) in rw (get_or-append ns (x ∷ []) 0 i l) (f l)

      go : (l : List ℕ) → Inserts ns x l → ReachInvariant next q l
      go l (none e) = g
      go l (again k) = g
      go l (anew z k) =
          record {
            reached = λ i h. one_more i (λ y j. Reached next q y) k (g.reached i) (t z) h;
            own = λ i h.
                one_more
                i
                (λ y j. index_of (ns ++ (x ∷ [])) y ≡ j)
                k
                (λ l. place_append ns (x ∷ []) (get_or ns i 0) (omega (arith, place_of ns i l)) ∙ g.own i l)
                (place_new ns x k)
                h;
          }

  -- an arrow from a list with the invariant leads to a node that can be reached
  target_reached : (ns : List ℕ) (k : ℕ) → ReachInvariant next q ns → (target next ns k ≡ 0 → ⊥) → Reached next q (target next ns k)
  target_reached ns k g z = go (ltb (k / events) (length ns)) refl
    where
      go : (b : Bool) → ltb (k / events) (length ns) ≡ b → Reached next q (target next ns k)
      go true h =
          let r = g.reached (k / events) (ltb-true (k / events) (length ns) h) in
          record { by = r.by ++ (k % events ∷ []); leads = after_snoc next q r.by (k % events) ∙ ap (λ (x : ℕ). next x (k % events)) r.leads; node = z }
      go false h = absurd (z (ap (λ (x : ℕ). next x (k % events)) (get_or-eq_default ns 0 (ltb-false (k / events) (length ns) h)) ∙ ok.none (k % events)))

  pub reach_invariant : (k : ℕ) → ReachInvariant next q (reached_by next q k)
  unfolding reached_by
  reach_invariant zero = invariant-start
  reach_invariant (suc k) = invariant-insert (reached_by next q k) (target next (reached_by next q k) k) (reach_invariant k) (target_reached (reached_by next q k) k (reach_invariant k))

  -- the list of nodes only grows
  pub grows : (k d : ℕ) → More (reached_by next q k) (reached_by next q (k + d))
  unfolding reached_by
  grows k zero = let e : k + 0 ≡ k = omega arith in rw e (record { rest = []; is = sym (nil (reached_by next q k)) })
    where
      nil : (l : List ℕ) → l ++ [] ≡ l
      nil [] = refl
      nil (y ∷ l) = ap (λ (z : List ℕ). y ∷ z) (nil l)
  grows k (suc d) =
      let e : k + suc d ≡ suc (k + d) = omega arith in
      let m = grows k d in
      let n = insert_more (reached_by next q (k + d)) (target next (reached_by next q (k + d)) (k + d)) in
      rw e (record { rest = m.rest ++ n.rest; is = n.is ∙ ap (λ (l : List ℕ). l ++ n.rest) m.is ∙ append_assoc (reached_by next q k) m.rest n.rest })

  -- once no arrow is left, no node is added
  pub rests : (k d : ℕ) → events * length (reached_by next q k) ≤ k → reached_by next q (k + d) ≡ reached_by next q k
  unfolding reached_by
  rests k zero h = let e : k + 0 ≡ k = omega arith in rw e
  rests k (suc d) h =
      let e : k + suc d ≡ suc (k + d) = omega arith in
      let i = (k + d) / events in
      let r : reached_by next q (k + d) ≡ reached_by next q k = rests k d h in
      let z : target next (reached_by next q k) (k + d) ≡ 0 = ap (λ (x : ℕ). next x ((k + d) % events))
      (get_or-eq_default (reached_by next q k) 0 {n = i} (omega arith)) ∙ ok.none ((k + d) % events) in
      rw (e, r, z) (insert_none (reached_by next q k))

  -- every successor of a numbered node has a number
  pub closed : states_of next q ≤ most_states → (i e : ℕ) → i < states_of next q → e < events → (next (get_or (nodes next q) i 0) e ≡ 0 → ⊥)
      → index_of (nodes next q) (next (get_or (nodes next q) i 0) e) < states_of next q
  closed s i e h l z = go (ltb i (length now)) refl
    where
      k : ℕ
      k = events * i + e

      now : List ℕ
      now = reached_by next q k

      all : ℕ
      all = events * most_states

      go : (b : Bool) → ltb i (length now) ≡ b → index_of (nodes next q) (next (get_or (nodes next q) i 0) e) < states_of next q
      go false f =
          let w : k + (all - k) ≡ all = omega arith in
          let r : nodes next q ≡ now = ap (reached_by next q) (sym w) ∙ rests k (all - k) (omega (arith, ltb-false i (length now) f)) in
          absurd (omega (arith, ap length r, ltb-false i (length now) f))
      go true f =
          let w : k + (all - k) ≡ all = omega arith in
          let w₁ : suc k + (all - suc k) ≡ all = omega arith in
          let m = grows k (all - k) in
          let m₁ = grows (suc k) (all - suc k) in
          let a : nodes next q ≡ now ++ m.rest = ap (reached_by next q) (sym w) ∙ m.is in
          let b : nodes next q ≡ reached_by next q (suc k) ++ m₁.rest = ap (reached_by next q) (sym w₁) ∙ m₁.is in
          let c : get_or (nodes next q) i 0 ≡ get_or now i 0 = ap (λ (y : List ℕ). get_or y i 0) a ∙ get_or-append now m.rest 0 i (ltb-true i (length now) f) in
          let x = next (get_or (nodes next q) i 0) e in
          let u : k / events ≡ i = omega arith in
          let v : k % events ≡ e = omega arith in
          let t : target next now k ≡ x = ap₂ (λ (y n : ℕ). next (get_or now y 0) n) u v ∙ ap (λ (y : ℕ). next y e) (sym c) in
          let g : reached_by next q (suc k) ≡ insert now x = reached_suc next q k ∙ ap (insert now) t in
          let p : index_of (reached_by next q (suc k)) x < length (reached_by next q (suc k)) = rw g (reached_known now x z) in
          let n : index_of (nodes next q) x ≡ index_of (reached_by next q (suc k)) x = ap (λ (y : List ℕ). index_of y x) b ∙ place_append (reached_by next q (suc k)) m₁.rest x p in
          omega (arith, ap length b, length-append (reached_by next q (suc k)) m₁.rest)

  module _ (s : states_of next q ≤ most_states) where
    -- an event leads from a numbered node nowhere, or to a numbered node
    pub data Leads (i e y : ℕ) : Type 0 where
      nowhere : y ≡ 0 → Leads i e y
      on : (y ≡ 0 → ⊥) → index_of (nodes next q) y < states_of next q → get_or (nodes next q) (index_of (nodes next q) y) 0 ≡ y → Leads i e y

    pub leads : (i e : ℕ) → i < states_of next q → Leads i e (next (get_or (nodes next q) i 0) e)
    leads i e h = go (eqb y 0) refl (ltb e events) refl
      where
        y : ℕ
        y = next (get_or (nodes next q) i 0) e

        go : (a : Bool) → eqb y 0 ≡ a → (b : Bool) → ltb e events ≡ b → Leads i e y
        go true f b g = nowhere (eqb-true y 0 f)
        go false f false g = nowhere (ok.above (get_or (nodes next q) i 0) e (ltb-false e events g))
        go false f true g =
            let z = eqb-false y 0 f in
            let p = closed s i e h (ltb-true e events g) z in
            on z p (place_at (nodes next q) y p)

    -- every node reached from a numbered node has a number
    on_from : (es : List ℕ) (i : ℕ) → i < states_of next q → (node_after next (get_or (nodes next q) i 0) es ≡ 0 → ⊥)
        → index_of (nodes next q) (node_after next (get_or (nodes next q) i 0) es) < states_of next q
    on_from [] i h z = omega (arith, place_of (nodes next q) i h)
    on_from (e ∷ es) i h z = go (next (get_or (nodes next q) i 0) e) (leads i e h) (on_from es) z
      where
        go : (y : ℕ) → Leads i e y → ((j : ℕ) → j < states_of next q → (node_after next (get_or (nodes next q) j 0) es ≡ 0 → ⊥)
            → index_of (nodes next q) (node_after next (get_or (nodes next q) j 0) es) < states_of next q) → (node_after next y es ≡ 0 → ⊥)
            → index_of (nodes next q) (node_after next y es) < states_of next q
        go y (nowhere f) r w = absurd (w (ap (λ (x : ℕ). node_after next x es) f ∙ after_none next ok.none es))
        go y (on f p g) r w = rw g at (r (index_of (nodes next q) y) p (λ v. w (ap (λ (x : ℕ). node_after next x es) (sym g) ∙ v)))

  from_start : More (q ∷ []) (nodes next q)
  from_start = rw (reached_zero next q) at (grows 0 (events * most_states))

  pub first : get_or (nodes next q) 0 0 ≡ q
  first = ap (λ (l : List ℕ). get_or l 0 0) from_start.is

  pub some_state : 0 < states_of next q
  some_state = omega (arith, ap length from_start.is)

  apart : (i j : ℕ) → i < states_of next q → j < states_of next q → get_or (nodes next q) i 0 ≡ get_or (nodes next q) j 0 → i ≡ j
  apart i j h l e = sym ((reach_invariant (events * most_states)).own i h) ∙ ap (index_of (nodes next q)) e ∙ (reach_invariant (events * most_states)).own j l

  numbered : nodes_fit next q ≡ true → (x : ℕ) → Reached next q x → index_of (nodes next q) x < states_of next q
  numbered t x r =
      let z : node_after next (get_or (nodes next q) 0 0) r.by ≡ x = ap (λ (y : ℕ). node_after next y r.by) first ∙ r.leads in
      rw z at (on_from (leb-true (states_of next q) most_states t) r.by 0 some_state (λ v. r.node (sym z ∙ v)))

  pub exactly : Exactly next q
  exactly =
      record {
        reached = (reach_invariant (events * most_states)).reached;
        once = apart;
        all = λ t x r. let p = numbered t x r in record { number = index_of (nodes next q) x; below = p; is = place_at (nodes next q) x p };
        many = λ t.
            let n : most_states < states_of next q = leb-false (states_of next q) most_states t in
            record {
              node = λ i. get_or (nodes next q) i 0;
              reached = λ i h. (reach_invariant (events * most_states)).reached i (omega arith);
              apart = λ i j h k e. apart i j (omega arith) (omega arith) e;
            };
        not_many = λ t m.
            let s : states_of next q ≤ most_states = leb-true (states_of next q) most_states t in
            let below : (i : ℕ) → i ≤ most_states → index_of (nodes next q) (m.node i) < states_of next q = λ i h. numbered t (m.node i) (m.reached i h) in
            pigeonhole
            most_states
            (λ i. index_of (nodes next q) (m.node i))
            (λ i h. omega (arith, below i h))
            (λ i j h k e. m.apart i j h k (sym (place_at (nodes next q) (m.node i) (below i h)) ∙ ap (λ (x : ℕ). get_or (nodes next q) x 0) e ∙ place_at (nodes next q) (m.node j) (below j k)));
        fixpoint = λ t more. rests (events * most_states) more (omega (arith, leb-true (states_of next q) most_states t));
      }

pub nodes_exact : NodesExact
nodes_exact = exactly

-- ---- the policy

module _ (next : ℕ → ℕ → ℕ) (q : ℕ) where
  -- the policy's arrow is the number of the node that the event leads to
  pub arrow_is : (i e : ℕ) → i < states_of next q → e < events → arrow (reached_policy next q) i e ≡ node_state (nodes next q) (next (get_or (nodes next q) i 0) e)
  unfolding table_of
  arrow_is i e h k =
      let n = events * i + e in
      let u : n / events ≡ i = omega arith in
      let v : n % events ≡ e = omega arith in
      rw (lt-ltb e events k) (build_at (byte_of next (nodes next q)) (events * states_of next q) n no_arrow (omega arith)
      ∙ ap₂ (λ (y d : ℕ). node_state (nodes next q) (next (get_or (nodes next q) y 0) d)) u v)

  module _ (ok : Arrows next q) where
    -- an event above 15 leads nowhere, in the policy too
    pub arrow_number : (i e : ℕ) → i < states_of next q → arrow (reached_policy next q) i e ≡ node_state (nodes next q) (next (get_or (nodes next q) i 0) e)
    arrow_number i e h = go (ltb e events) refl
      where
        go : (b : Bool) → ltb e events ≡ b → arrow (reached_policy next q) i e ≡ node_state (nodes next q) (next (get_or (nodes next q) i 0) e)
        go true f = arrow_is i e h (ltb-true e events f)
        go false f = rw (f, ok.above (get_or (nodes next q) i 0) e (ltb-false e events f))

    module _ (s : states_of next q ≤ most_states) where
      pub allowed_from_lem : (es : List ℕ) (i : ℕ) → i < states_of next q → allowed_from (reached_policy next q) i es ≡ not (eqb (node_after next (get_or (nodes next q) i 0) es) 0)
      allowed_from_lem [] i h = rw (ne_eqb (get_or (nodes next q) i 0) 0 ((reach_invariant next q ok (events * most_states)).reached i h).node)
      allowed_from_lem (e ∷ es) i h = ap goes (arrow_number i e h) ∙ go (next (get_or (nodes next q) i 0) e) (leads next q ok s i e h) (allowed_from_lem es)
        where
          goes : ℕ → Bool
          goes a = not (eqb a no_arrow) && allowed_from (reached_policy next q) a es

          go : (y : ℕ) → Leads next q ok s i e y → ((j : ℕ) → j < states_of next q
              → allowed_from (reached_policy next q) j es ≡ not (eqb (node_after next (get_or (nodes next q) j 0) es) 0))
              → goes (node_state (nodes next q) y) ≡ not (eqb (node_after next y es) 0)
          go y (nowhere f) r = rw (f, after_none next ok.none es)
          go y (on f p g) r =
              let n : eqb (index_of (nodes next q) y) no_arrow ≡ false = ne_eqb (index_of (nodes next q) y) no_arrow (λ z. omega arith) in
              rw (ne_eqb y 0 f, n) (r (index_of (nodes next q) y) p ∙ ap (λ (x : ℕ). not (eqb (node_after next x es) 0)) g)

      entry_right_lem : (k : ℕ) → k < events * states_of next q → entry_right (states_of next q) (byte_of next (nodes next q) k) ≡ true
      entry_right_lem k h = go (target next (nodes next q) k) (leads next q ok s (k / events) (k % events) (omega arith))
        where
          go : (y : ℕ) → Leads next q ok s (k / events) (k % events) y → entry_right (states_of next q) (node_state (nodes next q) y) ≡ true
          go y (nowhere f) = or_right (ltb (node_state (nodes next q) y) (states_of next q)) (eqb (node_state (nodes next q) y) no_arrow) (rw f)
          go y (on f p g) = rw (ne_eqb y 0 f) (or_left (ltb (index_of (nodes next q) y) (states_of next q)) (eqb (index_of (nodes next q) y) no_arrow)
              (lt-ltb (index_of (nodes next q) y) (states_of next q) p))

length_table : (next : ℕ → ℕ → ℕ) (q : ℕ) → length (table_of next q) ≡ events * states_of next q
unfolding table_of
length_table next q = length_build (byte_of next (nodes next q)) (events * states_of next q)

pub allowed_reaches : AllowedReaches
unfolding allowed
allowed_reaches next q es ok t = allowed_from_lem next q ok (leb-true _ _ t) es 0 (some_state next q ok) ∙ ap (λ (x : ℕ). not (eqb (node_after next x es) 0)) (first next q ok)

pub reach_right : ReachRight
unfolding right_policy table_of
reach_right next q lay ok t e =
    rw (eq-eqb (states_of next q) lay.states (sym e), eq-eqb (length (table_of next q)) (events * states_of next q) (length_table next q), lt-ltb 0 (states_of next q) (some_state next q ok))
    (entries_build (states_of next q) (byte_of next (nodes next q)) (events * states_of next q) (entry_right_lem next q ok (leb-true _ _ t)))

pub taken_reaches : TakenReaches
unfolding reach_answer reach_of reach_table
taken_reaches next q table t = go (nodes_fit next q) refl (ltb (length table) (events * states_of next q)) refl
  where
    go : (a : Bool) → nodes_fit next q ≡ a → (b : Bool) → ltb (length table) (events * states_of next q) ≡ b → WritesPolicy next q table
    go false e b f = absurd (omega (arith, rw e at t))
    go true e true f = absurd (omega (arith, rw (e, f) at t))
    go true e false f =
        record {
          few = e;
          states = rw (e, f);
          start = rw (e, f);
          leaves = rw (e, f) (take_at (table_of next q) (drop (length (table_of next q)) table) (events * states_of next q) (length_table next q));
        }

-- at most 256 bytes are written
pub place_most : (next : ℕ → ℕ → ℕ) (q room : ℕ) → (reach_of next q room).answer.place ≤ events * most_states
unfolding reach_of reach_answer
place_most next q room = go (nodes_fit next q) refl (ltb room (events * states_of next q)) refl
  where
    go : (a : Bool) → nodes_fit next q ≡ a → (b : Bool) → ltb room (events * states_of next q) ≡ b → (reach_of next q room).answer.place ≤ events * most_states
    go false e b f = rw e (omega arith)
    go true e true f = rw (e, f) (omega arith)
    go true e false f = rw (e, f) (omega (arith, leb-true (states_of next q) most_states e))
