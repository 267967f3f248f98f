-- The made policy: what is answered and written, its arrows, and that it is right.
use Prim.Native.Nat.{ℕ, ◌+◌, ◌*◌, ◌/◌, ◌%◌, ◌<◌, ◌≤◌}
use mathlib.Core.Path.{◌≡◌, refl, sym, ap₂, ◌∙◌}
use mathlib.Core.Bool.{Bool, true, false, ◌&&◌, ◌||◌, cond}
use mathlib.Core.List.{List}
use native.Mathlib.Omega.{arith}
use lib.Dec.{eqb, ltb}
use lib.ListN.{length, drop}
use lib.Seq.{take_at}
use lib.Pow.{pow_pos}
use borrow.Author.Tests.{eq-eqb, lt-ltb, le-ltb, leb-true}
use Rattle.types.specs.Names.{events, most_states, no_arrow}
use Rattle.spec.specs.Policies.{Policy, arrow, entry_right, right_policy}
use Rattle.policy_spec.specs.maps.Maps.{map_where}
use Rattle.policy_spec.specs.precedence.Precedence.{ValidPairs, events_known, most_named, is_named, named_count, states_of, table_bytes, arrow_of, byte_of, blocked, table_of}
use Rattle.policy_spec.specs.precedence.Precedence.{made_policy, pairs_right, make_answer, make_of, make_table}
use Rattle.policy_spec.specs.precedence.Claims.{WritesPolicy, TakenWritesPolicy, MadeRight}
use Rattle.policy_spec.proofs.maps.Tables.{entries_build}
use Rattle.policy_spec.proofs.maps.Maps.{length_build, build_at}
use Rattle.policy_spec.proofs.precedence.Laws.{states_most, on_below}
use Rattle.spec.proofs.Bools.{both, or_left, or_right}

pub fit_right : (ps : List ℕ) → pairs_right ps ≡ true → ValidPairs ps (map_where (is_named ps) events)
unfolding pairs_right
fit_right ps t =
    let f = both (events_known ps && eqb (length ps % 2) 0) _ t in
    record { below = (both (events_known ps) _ f.0).0; few = leb-true (named_count ps) most_named f.1; map = refl }

pub taken_writes_policy : TakenWritesPolicy
unfolding make_answer make_of make_table
taken_writes_policy ps table t = go (pairs_right ps) refl (ltb (length table) (table_bytes ps)) refl
  where
    go : (r : Bool) → pairs_right ps ≡ r → (l : Bool) → ltb (length table) (table_bytes ps) ≡ l → WritesPolicy ps table
    go false e l f = absurd (omega (arith, rw e at t))
    go true e true f = absurd (omega (arith, rw (e, f) at t))
    go true e false f =
        record {
          right = e;
          states = rw (e, f);
          start = rw (e, f);
          leaves = rw (e, f) (take_at (table_of ps) (drop (length (table_of ps)) table) (table_bytes ps) (length_build (byte_of ps) (table_bytes ps)));
          unreachable = rw (e, f);
        }

-- at most the bytes of sixteen states are written
pub place_most : (ps : List ℕ) (room : ℕ) → (make_of ps room).answer.place ≤ events * most_states
unfolding make_answer make_of
place_most ps room = go (pairs_right ps) refl (ltb room (table_bytes ps)) refl
  where
    go : (r : Bool) → pairs_right ps ≡ r → (l : Bool) → ltb room (table_bytes ps) ≡ l → (make_of ps room).answer.place ≤ events * most_states
    go false e l f = rw e (omega arith)
    go true e true f = rw (e, f) (omega arith)
    go true e false f = rw (e, f) (omega (arith, states_most ps (map_where (is_named ps) events) (fit_right ps e)))

-- the policy's arrow is `arrow_of`
pub arrow_is : (ps : List ℕ) (s e : ℕ) → s < states_of ps → e < events → arrow (made_policy ps) s e ≡ arrow_of ps s e
arrow_is ps s e h k =
    let i = events * s + e in
    let q : i / events ≡ s = omega arith in
    let r : i % events ≡ e = omega arith in
    rw (lt-ltb e events k) (build_at (byte_of ps) (table_bytes ps) i no_arrow (omega arith) ∙ ap₂ (arrow_of ps) q r)

-- an event above 15 has no arrow
pub arrow_above : (pol : Policy) (s e : ℕ) → events ≤ e → arrow pol s e ≡ no_arrow
arrow_above pol s e h = rw (le-ltb e events h)

-- an arrow leads to a state
entry_right_lem : (ps : List ℕ) (m : ℕ) → ValidPairs ps m → (i : ℕ) → i < table_bytes ps → entry_right (states_of ps) (byte_of ps i) ≡ true
entry_right_lem ps m fit i h = go (blocked ps s e) refl (on_below ps m fit s e (omega arith) (omega arith))
  where
    s : ℕ
    s = i / events

    e : ℕ
    e = i % events

    go : (b : Bool) → blocked ps s e ≡ b → cond b s (arrow_of ps s e) < states_of ps → (ltb (arrow_of ps s e) (states_of ps) || blocked ps s e) ≡ true
    go true t l = or_right (ltb (arrow_of ps s e) (states_of ps)) (blocked ps s e) t
    go false t l = or_left (ltb (arrow_of ps s e) (states_of ps)) (blocked ps s e) (lt-ltb (arrow_of ps s e) (states_of ps) l)

pub made_right : MadeRight
unfolding right_policy
made_right ps lay t e =
    let fit = fit_right ps t in
    rw (eq-eqb (states_of ps) lay.states (sym e), eq-eqb (length (table_of ps)) (events * states_of ps) (length_build (byte_of ps) (table_bytes ps)), lt-ltb 0 (states_of ps) (pow_pos (named_count ps)))
    (entries_build (states_of ps) (byte_of ps) (table_bytes ps) (entry_right_lem ps (map_where (is_named ps) events) fit))
