-- Every recorded order is at most its ceiling.
use mathlib.Core.Path.{sym, subst}
use mathlib.Core.List.{List, [], ◌∷◌}
use Prim.Native.Nat.{ℕ, ◌-◌, ◌*◌}
use native.Mathlib.Omega.{arith}
use lib.ListN.{length, get_or}
use Rattle.types.specs.declared.Layout.{Layout}
use Rattle.types.specs.declared.Ending.{Ending}
use Rattle.types.specs.declared.Effect.{Effect}
use Rattle.types.specs.declared.Effect.TheVariants.{Go, SetReg, SetCell, Order, Probe, End, Wait}
use Rattle.spec.specs.Layouts.{limited}
use Rattle.spec.specs.Commands.{fetch_of}
use Rattle.spec.specs.Machines.{State, apply_of, view_at, next_of, ending_of, RunResult, start_of, fits, run_of}
use Rattle.spec.specs.Guests.{pair_of}
use Rattle.spec.specs.Runs.{RunInput, pairs_of, Every, Session, run_on, after_run, run_as}
use Rattle.spec.specs.Claims.{Limited, Ceilings}
use Rattle.spec.proofs.Bools.{cond_ind}
use Rattle.spec.proofs.Loops.{Loop, step_in, keeps, machine_loop}
use Rattle.spec.proofs.Counts.{Room, room}
use Rattle.spec.proofs.Lists.{every_append, recorded_every}
use Rattle.spec.proofs.Simulation.{pairs_more}

abbrev pub LimitedIn : Layout → List ℕ → ℕ → Type 0
LimitedIn lay log n = Every (Limited lay) (pairs_of log n)

-- a step records nothing, an order within its ceiling, or a reading
pub apply_limited : (lay : Layout) (rd : List ℕ) (e : Effect) (s : State) → Room (length s.log - 2 * s.pairs) (length rd - s.used) e
    → LimitedIn lay s.log s.pairs → let t = apply_of lay.ceilings rd e s in LimitedIn lay t.log t.pairs
unfolding apply_of
apply_limited lay rd (Go to) s r h = h
apply_limited lay rd (SetReg d x) s r h = h
apply_limited lay rd (SetCell i x) s r h = h
apply_limited lay rd (Order v) s r h =
    let x = limited lay.ceilings v (get_or s.regs 0 0) in
    subst (Every (Limited lay)) (sym (pairs_more s.log s.pairs v x (omega arith))) (every_append (Limited lay) (pairs_of s.log s.pairs) (pair_of v x ∷ []) h ((λ _. omega arith), tt))
apply_limited lay rd (Probe v) s r h =
    let x = get_or rd s.used 0 in
    subst (Every (Limited lay)) (sym (pairs_more s.log s.pairs v x (omega (arith, r.0))))
    (every_append (Limited lay) (pairs_of s.log s.pairs) (pair_of v x ∷ []) h ((λ l. absurd (omega (arith, r.2))), tt))
apply_limited lay rd (End t) s r h = h
apply_limited lay rd (Wait e) s r h = h

-- so does any loop whose steps do
pub loop_limited : {K R : Type 0} (a : Loop K R) (lay : Layout) (P : R → Type 0)
    → ((s : State) → LimitedIn lay s.log s.pairs → LimitedIn lay (step_in a s).log (step_in a s).pairs)
    → ((e : Ending) (k : K) (s : State) → LimitedIn lay s.log s.pairs → P (a.ends e k s))
    → (n : ℕ) (k : K) (s : State) → LimitedIn lay s.log s.pairs → P (a.from n k s)
loop_limited a lay P step ends =
    keeps a (λ n k s. LimitedIn lay s.log s.pairs) P (λ n k s i o. ends (ending_of s.status) k s i) (λ n k s i r w z. ends w k s i) (λ n k s i r g. step s i)

run_limited : (lay : Layout) (ws : List ℕ) (c : Session) (g : RunInput) → let r = run_on lay ws c g in LimitedIn lay r.log r.outcome.answer.pairs
unfolding run_on run_of
run_limited lay ws c g =
    let rd = g.readings in
    let P : RunResult → Type 0 = λ r. LimitedIn lay r.log r.outcome.answer.pairs in
    cond_ind P (fits lay g.memory)
    (λ _. loop_limited (machine_loop lay ws rd) lay P (λ s. apply_limited lay rd (next_of lay ws rd s) s (room (fetch_of ws lay.base s.pc) (view_at lay rd s))) (λ e k s h. h)
    g.budget 0 (start_of c.machine g.memory g.log) tt)
    (λ _. tt)

pub ceilings : Ceilings
ceilings lay ws = recorded_every (run_as lay ws) (after_run lay ws) (Limited lay) (run_limited lay ws)
