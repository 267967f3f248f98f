-- The premises of the claims can be met, and the definitions compute.
use mathlib.Core.Path.{◌≡◌, refl, ◌∙◌, ap}
use mathlib.Core.Logic.{inl, ⊎_elim}
use mathlib.Core.List.{List, [], ◌∷◌}
use Prim.Native.Nat.{ℕ, ◌<◌}
use native.Mathlib.Omega.{arith}
use lib.Count.{ones, count_leading_zeros}
use lib.Dec.{lit≤}
use lib.ListN.{length}
use Rattle.types.specs.declared.Status.TheVariants.{Running}
use Rattle.spec.specs.Layouts.{right_layout, in_box, in_table, in_landings, protected}
use Rattle.spec.specs.Policies.{right_policy}
use Rattle.spec.specs.Landings.{right_landings, bits_from, landings_of}
use Rattle.spec.specs.Words.{fields_refusal, refusal_at, first_refused, instr_of, routine, bundles_for}
use Rattle.spec.specs.Commands.{word_of, is_command, command_of, fetch_of, plain_of}
use Rattle.spec.specs.Bundles.{shape_of, decode_bundle, bundle_at, rewrite_answer, base_room_answer}
use Rattle.spec.specs.Machines.{effect_of, install_answer, install_memory, install_machine, apply_of, run_of as machineRunOf, loop_from}
use Rattle.spec.specs.Runs.{RunInput, each_run, after_all, MemoryPreserved, begins, run_on as machineOn, after_taken as machineTaken, after_run as machineRun, after as machineAfter}
use Rattle.spec.specs.Claims.{AtBoundary, Waiting, NoPause}
use Rattle.spec.proofs.Bools.{no}
use Rattle.spec.proofs.Noninterference.{free_set}
use Rattle.samples.specs.Sample.{layout, policy, code, commands, memory, first_memory, runs as machineRuns, paused_run}
use Rattle.samples.proofs.Samples.{first_kept, sample_holds as machine_holds}
use Rattle.engine_spec.specs.Engines.{checked_event, instr_effect, instr_effect_at, with_state, apply_effect, refusal_by, run_of}
use Rattle.engine_spec.specs.Claims.{run_on, after_taken, after_run, after, HostPremise, PairedRuns}
use Rattle.engine_spec.specs.Continues.{reached_effect, continue_refusal, continue_of, call_of, call_refusal, call_on, after_call, each_call, CallPremise}
use Rattle.samples.specs.engine.Sample.{left, runs, mixed_calls, machine_one, engine_one, order_run, SampleHolds}

premise_with : (x y : ℕ) → HostPremise layout policy code (memory x) (runs y)
unfolding ones right_layout right_policy right_landings install_answer in_box in_table in_landings protected install_memory landings_of run_on after_taken after_run
    fields_refusal refusal_at first_refused refusal_by each_run
premise_with x y =
    record {
      taken = refl;
      installed = refl;
      preserved = (
        λ l i s. first_kept y i s ∙ machine_holds.matches y x i s,
        (λ l. absurd (let z : ◌≡◌ {A = ℕ} 0 1024 = l in omega arith), (λ l. free_set layout (left y) 600 y refl, tt)),
      );
    }

-- both entries
mixed_with : (x : ℕ) → CallPremise layout policy code (memory x) (mixed_calls x)
unfolding ones right_layout run_on after_taken after_run fields_refusal refusal_at first_refused refusal_by continue_refusal call_of call_refusal call_on after_call each_call
    each_run
mixed_with x = let p = premise_with x x in record { taken = p.taken; installed = p.installed; preserved = p.preserved }

nothing_used : (x y : ℕ) → (after layout policy code (memory x) (runs y)).consumed ≡ []
unfolding ones count_leading_zeros right_layout right_policy right_landings bits_from landings_of fields_refusal refusal_at first_refused instr_of routine bundles_for plain_of
    install_answer install_memory apply_of checked_event instr_effect instr_effect_at with_state apply_effect loop_from refusal_by run_of run_on after_taken after_run after_all
nothing_used x y = refl

paired_with : (x y : ℕ) → PairedRuns layout policy code (memory x) 32 (machineRuns x) (runs y)
unfolding right_layout ones fields_refusal refusal_at first_refused rewrite_answer base_room_answer bundles_for count_leading_zeros
paired_with x y =
    record {
      rewritten = refl;
      machine = machine_holds.premise x;
      engine = premise_with x y;
      readings = λ i m n. absurd (let z : i < length (after layout policy code (memory x) (runs y)).consumed = n in omega (arith, ap (λ (us : List ℕ). length us) (nothing_used x y)));
    }

-- the machine without a log
machine_waits : (x : ℕ) → Waiting layout commands (machineAfter layout policy commands (memory x) (paused_run x ∷ [])).machine
    × ((machineAfter layout policy commands (memory x) (paused_run x ∷ [])).begun ≡ 2)
unfolding ones count_leading_zeros right_layout right_policy right_landings bits_from landings_of instr_of routine bundles_for word_of shape_of decode_bundle bundle_at is_command
    command_of fetch_of plain_of install_answer install_memory install_machine effect_of apply_of loop_from machineRunOf begins machineOn machineTaken machineRun
    after_all
machine_waits x = (record { running = refl; event = 0; third = refl }, refl)

-- the machine after SET
machine_boundary : (x : ℕ) → let c = machineAfter layout policy commands (memory x) (machine_one x ∷ []) in
    AtBoundary layout c.machine × (c.machine.status ≡ Running) × (c.begun ≡ 1) × (c.memory ≡ first_memory x)
unfolding ones count_leading_zeros right_layout right_policy right_landings bits_from landings_of instr_of routine bundles_for word_of shape_of decode_bundle bundle_at is_command
    command_of fetch_of plain_of install_answer install_memory install_machine effect_of apply_of loop_from machineRunOf begins machineOn machineTaken machineRun
    after_all
machine_boundary x = (inl refl, refl, refl, refl)

-- it does not pause at the order, though it has no reading
machine_goes : (x : ℕ) → NoPause layout commands (machineAfter layout policy commands (memory x) (machine_one x ∷ [])) (order_run x)
unfolding ones count_leading_zeros right_layout right_policy right_landings bits_from landings_of instr_of routine bundles_for word_of shape_of decode_bundle bundle_at is_command
    command_of fetch_of plain_of install_answer install_memory install_machine effect_of apply_of loop_from machineRunOf begins machineOn machineTaken machineRun
    after_all
machine_goes x = record { memory = refl; goes = λ p. ⊎_elim (λ e. no (cc)) (λ e. no (cc)) p }

-- the engine's run uses no reading
unread : (x : ℕ) → ((after layout policy code (memory x) (paused_run x ∷ [])).consumed ≡ []) × ((after layout policy code (memory x) (engine_one x ∷ [])).consumed ≡ [])
unfolding ones count_leading_zeros right_layout right_policy right_landings bits_from landings_of fields_refusal refusal_at first_refused instr_of routine bundles_for plain_of
    install_answer install_memory apply_of checked_event instr_effect instr_effect_at with_state apply_effect loop_from refusal_by run_of run_on after_taken after_run after_all
unread x = (refl, refl)

one_each : (x : ℕ) (g h : RunInput) → MemoryPreserved layout (install_memory layout policy (memory x)) g
    → MemoryPreserved layout (install_memory layout policy (memory x)) h → (after layout policy code (memory x) (h ∷ [])).consumed ≡ []
    → PairedRuns layout policy code (memory x) 32 (g ∷ []) (h ∷ [])
unfolding each_run
one_each x g h lg lh none =
    record {
      rewritten = (paired_with x x).rewritten;
      machine = record { passed = (machine_holds.premise x).passed; installed = (machine_holds.premise x).installed; preserved = (lg, tt) };
      engine = record { taken = (premise_with x x).taken; installed = (premise_with x x).installed; preserved = (lh, tt) };
      readings = λ i m n. absurd (let z : i < length (after layout policy code (memory x) (h ∷ [])).consumed = n in omega (arith, ap (λ (us : List ℕ). length us) none));
    }

pub sample_holds : SampleHolds
unfolding reached_effect continue_refusal continue_of call_of call_refusal call_on after_call each_call
    ones count_leading_zeros right_layout right_policy right_landings bits_from landings_of fields_refusal refusal_at first_refused instr_of routine bundles_for plain_of
    install_answer install_memory apply_of checked_event instr_effect instr_effect_at with_state apply_effect loop_from refusal_by run_of run_on after_taken after_run
    after_all each_run rewrite_answer base_room_answer
sample_holds =
    record {
      premise = λ x. premise_with x x;
      alike = λ x y. (
        record { readings = refl; budget = refl; log = refl; memory = refl },
        (record { readings = refl; budget = refl; log = refl; memory = refl }, (record { readings = refl; budget = refl; log = refl; memory = refl }, tt)),
      );
      paired = paired_with;
      answers = λ x. refl;
      counted = λ x. refl;
      recorded = λ x. refl;
      state = λ x. refl;
      waits = λ x. one_each x (paused_run x) (paused_run x) (λ l. first_kept x) (λ l. first_kept x) (unread x).0;
      third = λ x. (machine_waits x).0;
      behind = λ x. (machine_waits x).1;
      paused = λ x. refl;
      paused_kept = λ x l i s. refl;
      level = λ x. one_each x (machine_one x) (engine_one x) (λ l. first_kept x) (λ l. first_kept x) (unread x).1;
      boundary = λ x. (machine_boundary x).0;
      running = λ x. (machine_boundary x).1;
      even = λ x. (machine_boundary x).2;
      pauses = λ x. inl refl;
      machine_kept = λ x l. rw (machine_boundary x).3 (λ i s. refl);
      engine_kept = λ x l i s. refl;
      machine_goes = machine_goes;
      engine_goes = λ x. record { memory = refl; goes = λ p. ⊎_elim (λ e. omega (arith, e)) (λ e. omega (arith, e)) p };
      ample = λ x. (lit≤ tt, lit≤ tt);
      mixed = mixed_with;
      mixed_answers = λ x. refl;
      unjudged_premise = λ x. record { most = omega arith; installed = (premise_with x x).installed; preserved = (λ l. first_kept x, tt) };
      faulted = λ x. refl;
      unknown = refl;
      landing = refl;
    }
