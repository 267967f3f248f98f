-- Every moment within a run is the end of a run with a smaller budget. A list cut off there satisfies the premise.
use mathlib.Core.Path.{refl, ◌∙◌, ap, subst}
use mathlib.Core.List.{[], ◌∷◌, ◌++◌}
use Rattle.spec.specs.Bundles.{commands_of}
use Rattle.spec.specs.Machines.{final_state, run_of, run_from, start_of}
use Rattle.spec.specs.Runs.{Session, initial_session, run_on, after_run, after}
use Rattle.spec.specs.Claims.{RunsCompose, with_budget, PrefixClosed, AtBoundary, Simulates, guest_for, EveryMoment}
use Rattle.spec.proofs.Loops.{begun_loop, runs_compose_at}
use Rattle.spec.proofs.Lists.{after_more, preserved_prefix}
use Rattle.spec.proofs.Isolation.{guest_rule}

pub runs_compose : RunsCompose
runs_compose lay ws rd j l k b s =
    let f = runs_compose_at (begun_loop lay ws rd) (λ r. ((r.0.outcome.answer.steps, r.1), final_state r.0)) (λ e k s. refl) l j (k, b) s in
    record { run = ap (λ r. r.0) f; begun = ap (λ r. r.1) f }

pub prefix_closed : PrefixClosed
prefix_closed lay pol ws mem xs ys g j v =
    record { passed = v.passed; installed = v.installed; preserved = preserved_prefix (after_run lay ws) lay (λ (c : Session). c.memory) _ xs ys g j v.preserved }

pub every_moment : EveryMoment
unfolding run_on run_of
every_moment lay pol code mem room xs ys g j z v =
    let ws = commands_of lay code in
    let c = after lay pol ws mem xs in
    let start = start_of c.machine g.memory g.log in
    let cut = xs ++ (with_budget g j ∷ []) in
    record {
      comes = λ l t e. rw t (ap (λ n. run_from lay ws g.readings n 0 start) e ∙ (runs_compose lay ws g.readings j l 0 0 start).run);
      agreement =
          subst (λ (d : Session). AtBoundary lay d.machine → Simulates lay (guest_for lay pol code mem d d.begun) d)
          (after_more (after_run lay ws) (initial_session lay pol mem) xs (with_budget g j))
          (guest_rule lay pol code mem room cut z (prefix_closed lay pol ws mem xs ys g j v));
    }
