-- The one answer of a run that changes when probe silent (24) comes before log full (23).
use mathlib.Core.Path.{◌≡◌, refl, sym, ap, subst, ◌∙◌}
use mathlib.Core.Bool.{Bool, true, false}
use mathlib.Core.Logic.{◌⊎◌, inl, inr, ⊎_elim}
use mathlib.Core.List.{List}
use Prim.Native.Nat.{ℕ, zero, suc, ◌+◌}
use native.Mathlib.Omega.{arith}
use borrow.Author.Tests.{ltb-true, ltb-false, eqb-true, eqb-false}
use lib.Dec.{eqb, ltb}
use Rattle.types.specs.declared.Layout.{Layout}
use Rattle.types.specs.declared.Command.{Command}
use Rattle.types.specs.declared.Command.TheVariants.{Nop, Halt, Plain, Load, Store, GoIf, GoReg, Look, StopIf, Keep, Event, Invalid}
use Rattle.types.specs.declared.Effect.{Effect}
use Rattle.types.specs.declared.Effect.TheVariants.{Go, SetReg, SetCell, Order, Probe, End, Wait}
use Rattle.types.specs.declared.Status.{Status}
use Rattle.types.specs.declared.Status.TheVariants.{Running, Ended, Stopped, Faulted, Strayed}
use Rattle.types.specs.declared.Ending.{Ending}
use Rattle.types.specs.declared.Ending.TheVariants.{Done, NoArrow, Fault, LogFull, Silent, Spent, NoLanding, Refused}
use Rattle.types.specs.Names.{orders}
use Rattle.spec.specs.Commands.{fetch_of}
use Rattle.spec.specs.Machines.{View, effect_of, State, apply_of, view_at, next_of, RunResult, run_result_of, ending_of, result_in, unless_over, unless_wait, start_of, fits, run_from, run_of, loop_from}
use Rattle.types.specs.Records.{outcome_of}
use Rattle.spec.proofs.Bools.{no}
use Rattle.changes.specs.Claims.{BothPause, effect_before, next_before, run_from_before, run_before, PausedBoth, RunLaws, SilentRuns}
use Rattle.changes.proofs.Pauses.{silent_first}

-- ---- one command: it does what it did before, or it is the event to which both pauses apply
pub record Both (c : Command) (s : View) : Type 0 where
  pub event : ℕ
  pub is : c ≡ Event event
  pub both : BothPause event s

abbrev Turned : Command → View → Type 0
Turned c s =
    ((Both c s → ⊥) × (effect_of c s ≡ effect_before c s)) ⊎ (Both c s × (effect_of c s ≡ Wait Silent) × (effect_before c s ≡ Wait LogFull))

-- an event's number plus one; 0 for any other command
abbrev numbered : Command → ℕ
numbered Nop = 0
numbered Halt = 0
numbered (Plain k d a b v) = 0
numbered (Load d a) = 0
numbered (Store a b) = 0
numbered (GoIf a b c v) = 0
numbered (GoReg d a b c) = 0
numbered (Look d v) = 0
numbered (StopIf d) = 0
numbered (Keep d) = 0
numbered (Event v) = v + 1
numbered Invalid = 0

other : (c : Command) (s : View) → numbered c ≡ 0 → Both c s → ⊥
other c s e p = omega (arith, ap numbered p.is)

both_or : (v : ℕ) (s : View) (a b c : Bool) → ltb v orders ≡ a → eqb s.left 0 ≡ b → ltb s.free 2 ≡ c → BothPause v s ⊎ (BothPause v s → ⊥)
both_or v s true b c e f g = inr (λ p. absurd (omega (arith, p.0, ltb-true v orders e)))
both_or v s false false c e f g = inr (λ p. absurd (eqb-false s.left 0 f p.1))
both_or v s false true false e f g = inr (λ p. absurd (omega (arith, p.2, ltb-false s.free 2 g)))
both_or v s false true true e f g = inl (ltb-false v orders e, eqb-true s.left 0 f, omega (arith, ltb-true s.free 2 g))

turned : (c : Command) (s : View) → Turned c s
turned Nop s = inl (other Nop s refl, refl)
turned Halt s = inl (other Halt s refl, refl)
turned (Plain k d a b v) s = inl (other (Plain k d a b v) s refl, refl)
turned (Load d a) s = inl (other (Load d a) s refl, refl)
turned (Store a b) s = inl (other (Store a b) s refl, refl)
turned (GoIf a b c v) s = inl (other (GoIf a b c v) s refl, refl)
turned (GoReg d a b c) s = inl (other (GoReg d a b c) s refl, refl)
turned (Look d v) s = inl (other (Look d v) s refl, refl)
turned (StopIf d) s = inl (other (StopIf d) s refl, refl)
turned (Keep d) s = inl (other (Keep d) s refl, refl)
turned Invalid s = inl (other Invalid s refl, refl)
turned (Event v) s =
    let laws = silent_first v s in
    ⊎_elim
    (λ p. inr (record { event = v; is = refl; both = p }, laws.gives p, laws.gave p))
    (λ f. inl (λ x. let n : x.event ≡ v = omega (arith, ap numbered x.is) in f (subst (λ (n : ℕ). BothPause n s) n x.both), laws.same f))
    (both_or v s (ltb v orders) (eqb s.left 0) (ltb s.free 2) refl refl refl)

-- ---- a run
abbrev is_full : Ending → Bool
is_full Done = false
is_full NoArrow = false
is_full Fault = false
is_full LogFull = true
is_full Silent = false
is_full Spent = false
is_full NoLanding = false
is_full Refused = false

module _ (lay : Layout) (ws reads : List ℕ) where
  abbrev Laws : RunResult → RunResult → Type 0
  Laws now old = RunLaws lay ws reads now old

  -- a run that did not answer log full (23) is as before
  unpaused : (r : RunResult) → is_full r.outcome.answer.ending ≡ false → Laws r r
  unpaused r e = record { gives = λ p. no (sym e ∙ ap is_full p.full); same = λ _. refl }

  ended : (t : Status) → is_full (ending_of t) ≡ false
  ended Running = refl
  ended Ended = refl
  ended Stopped = refl
  ended Faulted = refl
  ended Strayed = refl

  -- a step, if the claim holds of what follows
  module _ (n k : ℕ) (s : State) (later : (k : ℕ) (s : State) → Laws (run_from lay ws reads n k s) (run_from_before lay ws reads n k s)) where
    abbrev next : Effect → RunResult
    next x = unless_wait x (λ e. result_in e k s) (run_from lay ws reads n (k + 1) (apply_of lay.ceilings reads x s))

    abbrev before : Effect → RunResult
    before x = unless_wait x (λ e. result_in e k s) (run_from_before lay ws reads n (k + 1) (apply_of lay.ceilings reads x s))

    abbrev here : Command
    here = fetch_of ws lay.base s.pc

    alike : (Both here (view_at lay reads s) → ⊥) → (x : Effect) → Laws (next x) (before x)
    alike f (Wait e) = record { gives = λ p. absurd (f (record { event = p.event; is = p.command; both = p.both })); same = λ _. refl }
    alike f (Go to) = later _ _
    alike f (SetReg d x) = later _ _
    alike f (SetCell i x) = later _ _
    alike f (Order v) = later _ _
    alike f (Probe v) = later _ _
    alike f (End t) = later _ _

    differ : Both here (view_at lay reads s) → Laws (result_in Silent k s) (result_in LogFull k s)
    differ b =
        let p : PausedBoth lay ws reads (result_in LogFull k s) = record { full = refl; event = b.event; command = b.is; both = b.both } in
        record { gives = λ _. refl; same = λ f. absurd (f p) }

    step : Laws (next (next_of lay ws reads s)) (before (next_before lay ws reads s))
    step =
        ⊎_elim
        (λ x. rw x.1 (alike x.0 (next_before lay ws reads s)))
        (λ x. rw (x.1, x.2) (differ x.0))
        (turned here (view_at lay reads s))

    abbrev over : RunResult
    over = result_in (ending_of s.status) k s

    from : (t : Status) → Laws (unless_over t over (next (next_of lay ws reads s))) (unless_over t over (before (next_before lay ws reads s)))
    from Running = step
    from Ended = unpaused over (ended s.status)
    from Stopped = unpaused over (ended s.status)
    from Faulted = unpaused over (ended s.status)
    from Strayed = unpaused over (ended s.status)

  runs : (n k : ℕ) (s : State) → Laws (run_from lay ws reads n k s) (run_from_before lay ws reads n k s)
  unfolding loop_from
  runs zero k s = unpaused _ (ended s.status)
  runs (suc n) k s = from n k s (runs n) s.status

pub silent_runs : SilentRuns
unfolding run_of run_before
silent_runs lay ws m mem budget reads log = by (fits lay mem) refl
  where
    by : (t : Bool) → fits lay mem ≡ t → RunLaws lay ws reads (run_of lay ws m mem budget reads log) (run_before lay ws m mem budget reads log)
    by true e = rw e (runs lay ws reads budget 0 (start_of m mem log))
    by false e = rw e (unpaused lay ws reads (run_result_of (outcome_of m Refused 0 0 0) mem log) refl)
