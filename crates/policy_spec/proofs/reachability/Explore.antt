-- The loop of the search: its invariant holds at the start and after each step, and gives the definitions' result at the end.
use Prim.Native.Nat.{ℕ, suc, ◌+◌, ◌-◌, ◌*◌, ◌/◌, ◌%◌, ◌<◌, ◌≤◌}
use mathlib.Core.Path.{◌≡◌, refl, sym, ap, ap₂, ◌∙◌}
use mathlib.Core.Bool.{Bool, true, false, ◌&&◌, ◌||◌, cond, and-true}
use mathlib.Core.List.{List, [], ◌∷◌, ◌++◌}
use native.Mathlib.Omega.{arith}
use lib.Dec.{eqb, leb, ltb}
use lib.ListN.{length, get_or, take, drop, set, replicate, length-set, length-append, length-replicate, get_or-append}
use lib.Seq.{take-suc-set, length-take-le, get_or-take, take_at}
use borrow.Author.Tests.{ltb-true, ltb-false, leb-true, leb-false, eqb-false, lt-leb}
use Rattle.types.specs.Names.{most_states, events, no_arrow}
use Rattle.spec.proofs.Bools.{both}
use Rattle.policy_spec.specs.maps.Maps.{build}
use Rattle.policy_spec.proofs.maps.Maps.{length_build}
use Rattle.policy_spec.proofs.maps.Tables.{fill_none, fill_more}
use Rattle.policy_spec.specs.reachability.Reach.{index_of, known, insert, target, reached_by, nodes, node_state, byte_of, states_of, table_of, reach_answer, reach_of, reach_table}
use Rattle.policy_spec.specs.reachability.Worklists.{Worklist, initial_worklist, nodes_of, has_pending, insert_target, WorklistInvariant, Explored, worklist_answer, written_of, written_table}
use Rattle.policy_spec.specs.reachability.Claims.{Arrows}
use Rattle.policy_spec.proofs.reachability.Places.{place_le, place_append, place_new, Inserts, none, again, anew, inserts, reached_known}
use Rattle.policy_spec.proofs.reachability.Reach.{reached_zero, reached_suc, grows, rests}

-- a node keeps its number once it is found
number_reached : (ns : List ℕ) (x : ℕ) → node_state ns x ≡ node_state (insert ns x) x
number_reached ns x = go (insert ns x) (inserts ns x)
  where
    go : (l : List ℕ) → Inserts ns x l → node_state ns x ≡ node_state l x
    go l (none e) = refl
    go l (again k) = refl
    go l (anew z k) = let p : index_of ns x ≡ length ns = omega (arith, place_le ns x) in ap (cond (eqb x 0) no_arrow) (p ∙ sym (place_new ns x k))

number_kept : (ns ms : List ℕ) (x : ℕ) → ((x ≡ 0 → ⊥) → index_of ns x < length ns) → node_state ns x ≡ node_state (ns ++ ms) x
number_kept ns ms x h = go (eqb x 0) refl
  where
    go : (b : Bool) → eqb x 0 ≡ b → cond b no_arrow (index_of ns x) ≡ cond b no_arrow (index_of (ns ++ ms) x)
    go true e = refl
    go false e = sym (place_append ns ms x (h (eqb-false x 0 e)))

-- the nodes after a step
step_list : (f : Worklist) (k x : ℕ) → f.count < length f.nodes → nodes_of (insert_target f k x) ≡ insert (nodes_of f) x
unfolding insert_target insert
step_list f k x h = go (eqb x 0 || known (nodes_of f) x)
  where
    go : (b : Bool) → take (cond b f.count (f.count + 1)) (cond b f.nodes (set f.nodes f.count x)) ≡ cond b (nodes_of f) (nodes_of f ++ (x ∷ []))
    go true = refl
    go false = let n : f.count + 1 ≡ suc f.count = omega arith in rw n (take-suc-set f.nodes f.count x h)

record Grown (f g : Worklist) : Type 0 where
  pub at_least : f.count ≤ g.count
  pub at_most : g.count ≤ f.count + 1
  pub nodes : length g.nodes ≡ length f.nodes
  pub arrows : length g.arrows ≡ length f.arrows

step_grown : (f : Worklist) (k x : ℕ) → Grown f (insert_target f k x)
unfolding insert_target
step_grown f k x = go (eqb x 0 || known (nodes_of f) x)
  where
    go : (b : Bool) → Grown f (record { nodes = cond b f.nodes (set f.nodes f.count x); count = cond b f.count (f.count + 1); arrows = set f.arrows k (node_state (nodes_of f) x) })
    go true = record { at_least = omega arith; at_most = omega arith; nodes = refl; arrows = length-set f.arrows k (node_state (nodes_of f) x) }
    go false = record { at_least = omega arith; at_most = omega arith; nodes = length-set f.nodes f.count x; arrows = length-set f.arrows k (node_state (nodes_of f) x) }

step_arrows : (f : Worklist) (k x : ℕ) → (insert_target f k x).arrows ≡ set f.arrows k (node_state (nodes_of f) x)
unfolding insert_target
step_arrows f k x = refl

more_few : (f : Worklist) (k : ℕ) → has_pending f k ≡ true → (f.count ≤ most_states) × (k < events * f.count)
more_few f k t = let b = both (ltb k (events * f.count)) (leb f.count most_states) t in (leb-true f.count most_states b.1, ltb-true k (events * f.count) b.0)

module _ (next : ℕ → ℕ → ℕ) (q : ℕ) (ok : Arrows next q) where
  pub holds_start : (f : Worklist) → f ≡ initial_worklist q → WorklistInvariant next q f 0
  holds_start f e = rw e (record {
    sized = record { most = omega arith; nodes = refl; arrows = refl };
    count = ap length (sym (reached_zero next q));
    list = sym (reached_zero next q);
    arrows = fill_none (byte_of next (nodes next q)) (replicate (events * most_states) 0);
    taken = omega arith;
    few = omega arith;
  })

  module _ (f : Worklist) (k : ℕ) (h : WorklistInvariant next q f k) where
    module _ (b : Bool) (m : b ≡ has_pending f k) (t : b ≡ true) (y x : ℕ) (e : y ≡ get_or f.nodes (k / events) 0) (g : x ≡ next y (k % events)) where
      few : f.count ≤ most_states
      few = (more_few f k (sym m ∙ t)).0

      low : k < events * f.count
      low = (more_few f k (sym m ∙ t)).1

      is_target : x ≡ target next (reached_by next q k) k
      is_target = g ∙ ap (λ (z : ℕ). next z (k % events)) (e ∙ sym (get_or-take f.count f.nodes (k / events) 0 (omega (arith, low))) ∙ ap (λ (l : List ℕ). get_or l (k / events) 0) h.list)

      then : insert (nodes_of f) x ≡ reached_by next q (k + 1)
      then =
          let n : k + 1 ≡ suc k = omega arith in
          rw n (ap₂ insert h.list is_target ∙ sym (reached_suc next q k))

      -- the target that is stored is the final one
      entry : node_state (nodes_of f) x ≡ byte_of next (nodes next q) k
      entry =
          let all = events * most_states in
          let w : k + (all - k) ≡ all = omega (arith, low, few) in
          let w₁ : k + 1 + (all - (k + 1)) ≡ all = omega (arith, low, few) in
          let m = grows next q ok k (all - k) in
          let m₁ = grows next q ok (k + 1) (all - (k + 1)) in
          let a : nodes next q ≡ reached_by next q k ++ m.rest = ap (reached_by next q) (sym w) ∙ m.is in
          let b : nodes next q ≡ reached_by next q (k + 1) ++ m₁.rest = ap (reached_by next q) (sym w₁) ∙ m₁.is in
          let c : get_or (nodes next q) (k / events) 0 ≡ get_or (reached_by next q k) (k / events) 0 = ap (λ (l : List ℕ). get_or l (k / events) 0) a
          ∙ get_or-append (reached_by next q k) m.rest 0 (k / events) (omega (arith, low, h.count)) in
          let v : target next (nodes next q) k ≡ x = ap (λ (z : ℕ). next z (k % events)) c ∙ sym is_target in
          number_reached (nodes_of f) x
          ∙ ap (λ (l : List ℕ). node_state l x) then
          ∙ number_kept (reached_by next q (k + 1)) m₁.rest x (λ z. rw then at (reached_known (nodes_of f) x z))
          ∙ ap₂ node_state (sym b) (sym v)

      step_holds : WorklistInvariant next q (insert_target f k x) (k + 1)
      step_holds =
          let u = step_grown f k x in
          let s = h.sized in
          let l : nodes_of (insert_target f k x) ≡ reached_by next q (k + 1) = step_list f k x (omega (arith, few, s.nodes)) ∙ then in
          record {
            sized = record { most = omega (arith, u.at_most, few); nodes = u.nodes ∙ s.nodes; arrows = u.arrows ∙ s.arrows };
            count = sym (length-take-le (insert_target f k x).count (insert_target f k x).nodes (omega (arith, u.at_most, few, u.nodes, s.nodes))) ∙ ap length l;
            list = l;
            arrows = step_arrows f k x ∙ fill_more (byte_of next (nodes next q)) (replicate (events * most_states) 0) f.arrows k (node_state (nodes_of f) x)
                h.arrows (omega (arith, low, few, length-replicate {A = ℕ} (events * most_states) 0)) entry;
            taken = omega (arith, low, u.at_least);
            few = omega (arith, low, few);
          }

      pub holds_more : (r : Worklist) → r ≡ insert_target f k x → WorklistInvariant next q r (k + 1)
      holds_more r w = rw w step_holds

    pub holds_done : (b : Bool) → b ≡ has_pending f k → b ≡ false → Explored next q f
    holds_done b e t = record { arrows = k; holds = h; all = sym e ∙ t }

-- ---- the policy that is written

module _ (next : ℕ → ℕ → ℕ) (q : ℕ) (ok : Arrows next q) (f : Worklist) (ex : Explored next q f) where
  -- at most sixteen nodes: all are found, with all their arrows
  record Whole : Type 0 where
    pub few : leb f.count most_states ≡ true
    pub few_nodes : leb (states_of next q) most_states ≡ true
    pub count : f.count ≡ states_of next q
    pub table : take (events * f.count) f.arrows ≡ table_of next q

  record Many : Type 0 where
    pub many : leb f.count most_states ≡ false
    pub many_nodes : leb (states_of next q) most_states ≡ false

  whole : leb f.count most_states ≡ true → Whole
  unfolding table_of
  whole t =
      let k = ex.arrows in
      let h = ex.holds in
      let all = events * most_states in
      let b : ltb k (events * f.count) ≡ false = sym (and-true (ltb k (events * f.count))) ∙ ap (λ (c : Bool). ltb k (events * f.count) && c) (sym t) ∙ ex.all in
      let e : k ≡ events * f.count = omega (arith, ltb-false k (events * f.count) b, h.taken) in
      let w : k + (all - k) ≡ all = omega (arith, h.few) in
      let n : nodes next q ≡ reached_by next q k = ap (reached_by next q) (sym w) ∙ rests next q ok k (all - k) (omega (arith, e, h.count)) in
      let c : f.count ≡ states_of next q = h.count ∙ ap length (sym n) in
      let a = byte_of next (nodes next q) in
      record {
        few = t;
        few_nodes = ap (λ (x : ℕ). leb x most_states) (sym c) ∙ t;
        count = c;
        table =
            ap (take (events * f.count)) h.arrows
            ∙ take_at (build a k) (drop k (replicate all 0)) (events * f.count) (length_build a k ∙ e)
            ∙ ap (build a) (e ∙ ap (λ (x : ℕ). events * x) c);
      }

  many : leb f.count most_states ≡ false → Many
  many t =
      let k = ex.arrows in
      let h = ex.holds in
      let all = events * most_states in
      let w : k + (all - k) ≡ all = omega (arith, h.few) in
      let m = grows next q ok k (all - k) in
      let n : nodes next q ≡ reached_by next q k ++ m.rest = ap (reached_by next q) (sym w) ∙ m.is in
      record {
        many = t;
        many_nodes = lt-leb (states_of next q) most_states (omega (arith, leb-false f.count most_states t, h.count, ap length n, length-append (reached_by next q k) m.rest));
      }

  pub written_made : (space : ℕ) → written_of f space ≡ reach_of next q space
  unfolding written_of worklist_answer reach_of reach_answer
  written_made space = go (leb f.count most_states) refl
    where
      go : (b : Bool) → leb f.count most_states ≡ b → written_of f space ≡ reach_of next q space
      go true t = let w = whole t in rw (t, w.few_nodes, w.count)
      go false t = let w = many t in rw (t, w.many_nodes)

  pub written_table_lem : (t : List ℕ) → written_table f t ≡ reach_table next q t
  unfolding written_table worklist_answer reach_table reach_answer
  written_table_lem table = go (leb f.count most_states) refl
    where
      go : (b : Bool) → leb f.count most_states ≡ b → written_table f table ≡ reach_table next q table
      go true t = let w = whole t in rw (t, w.few_nodes, w.table, w.count)
      go false t = let w = many t in rw (t, w.many_nodes)
