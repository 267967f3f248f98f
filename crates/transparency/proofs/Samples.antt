-- The premises can be met, and the definitions compute.
use Prim.Native.Nat.{ℕ, zero, suc, ◌<◌, ◌≤◌}
use mathlib.Core.Path.{◌≡◌, refl, ◌∙◌, ap}
use mathlib.Core.Logic.{inl}
use mathlib.Core.List.{List, [], ◌∷◌}
use native.Mathlib.Omega.{arith}
use lib.Count.{ones, count_leading_zeros}
use lib.Dec.{lit<, lit≤}
use lib.ListN.{length, length-set}
use Rattle.types.specs.declared.Status.TheVariants.{Running, Ended}
use Rattle.spec.specs.Layouts.{right_layout, in_box}
use Rattle.spec.specs.Policies.{right_policy}
use Rattle.spec.specs.Landings.{right_landings, bits_from, landings_of, marked}
use Rattle.spec.specs.Words.{fields_refusal, refusal_at, first_refused, instr_of, routine, bundles_for}
use Rattle.spec.specs.Commands.{is_command, command_of, word_of, fetch_of, plain_of}
use Rattle.spec.specs.Bundles.{shape_of, valid, decode_bundle, bundle_at, is_bundle, shaped_at, passes_at, check_from, check_answer, base_room_answer, rewrite_answer}
use Rattle.spec.specs.Machines.{is_landing, install_answer, install_memory, install_machine, effect_of, apply_of, run_of, loop_from}
use Rattle.spec.specs.Runs.{RunInput, begins, run_on, after_taken, after_run, LowEqual, MemoryPreserved, HostPremise, each_run, after_all}
use Rattle.spec.specs.Claims.{AtBoundary, Waiting, NoPause}
use Rattle.spec.proofs.Progress.{resumable_no_pause}
use Rattle.samples.specs.Sample.{layout, written}
use Rattle.samples.proofs.Samples.{written_kept}
use Rattle.engine_spec.specs.Engines.{checked_event, instr_effect, instr_effect_at, with_state, apply_effect, refusal_of, refusal_by, run_of as engineRunOf}
use Rattle.engine_spec.specs.Claims.{run_on as engineOn, after_taken as engineTaken, after_run as engineRun, HostPremise as EnginePremise, EngineNoPause}
use Rattle.engine_spec.proofs.Isolation.{engine_ample}
use Rattle.transparency.specs.Raw.{raw_event, raw_exec, raw_step, raw_after, Behaves}
use Rattle.transparency.specs.Claims.{IsPrefix, Behaved}
use Rattle.transparency.specs.Sample.{policy, code, commands, memory, readings, run, one_pair, paused_run, cut_run, machine_session, engine_session, raw_at, CanGoOn, SampleHolds}

passed : (check_answer layout commands).number ≡ 0
unfolding ones count_leading_zeros right_layout instr_of routine bundles_for word_of shape_of valid decode_bundle bundle_at is_bundle shaped_at passes_at check_from check_answer
passed = refl

installed : (install_answer layout policy memory).number ≡ 0
unfolding ones right_layout right_policy right_landings install_answer
installed = refl

-- before a first run the host writes only to a free cell
kept : (x : ℕ) → LowEqual layout (written x (install_memory layout policy memory)) (install_memory layout policy memory)
kept x = written_kept x (install_memory layout policy memory)

premise : (g : RunInput) → MemoryPreserved layout (install_memory layout policy memory) g → HostPremise layout policy commands memory (g ∷ [])
unfolding each_run
premise g e = record { passed = passed; installed = installed; preserved = (e, tt) }

behaves : (j : ℕ) → j < 8 → (raw_at j).status ≡ Running → Behaves layout policy 16 (routine code (raw_at j).at) (raw_at j)
unfolding instr_of routine plain_of raw_event raw_exec raw_step raw_after in_box
behaves zero h t = tt
behaves (suc zero) h t = tt
behaves (suc (suc zero)) h t = refl
behaves (suc (suc (suc zero))) h t = refl
behaves (suc (suc (suc (suc zero)))) h t = λ _. (lit< tt, refl)
behaves (suc (suc (suc (suc (suc zero))))) h t = λ z. omega (arith, z)
behaves (suc (suc (suc (suc (suc (suc zero)))))) h t = λ z. omega (arith, z)
behaves (suc (suc (suc (suc (suc (suc (suc zero))))))) h t = tt
behaves (suc (suc (suc (suc (suc (suc (suc (suc j)))))))) h t = absurd (omega (arith, h))

-- the first k instructions behave well if the runs used at most the first reading
behaved : (us : List ℕ) (k : ℕ) → k ≤ 8 → IsPrefix us readings → Behaved layout policy code memory memory us readings k
unfolding count_leading_zeros bundles_for
behaved us k l b = record { box = record { room = lit< tt; cells = λ i h. refl }; readings = b; behaves = λ j m. behaves j (omega (arith, l, m)) }

rewritten : (rewrite_answer layout code 64).number ≡ 0
unfolding ones count_leading_zeros right_layout fields_refusal refusal_at first_refused bundles_for base_room_answer rewrite_answer
rewritten = refl

-- after runs that used no reading
can_go_on : (x : ℕ) (mem us : List ℕ) → us ≡ [] → CanGoOn x mem us
can_go_on x mem us e =
    record {
      preserved = λ _. written_kept x mem;
      reading = λ _. rw e refl;
    }

-- with a free pair and a reading it does not pause
machine_goes : (x : ℕ) (g : RunInput) → MemoryPreserved layout (install_memory layout policy memory) g →
    let c = machine_session g in
    length c.memory ≡ 1024 → NoPause layout commands c (one_pair x c.memory 1000)
machine_goes x g e l =
    let mem = (machine_session g).memory in
    resumable_no_pause layout policy commands memory (g ∷ []) (premise g e) (one_pair x mem 1000) (λ _. written_kept x mem)
    (record { memory = length-set mem 650 x ∙ l; log = lit≤ tt; readings = lit≤ tt })

engine_goes : (x : ℕ) (g : RunInput) → EnginePremise layout policy code memory (g ∷ []) →
    let c = engine_session g in
    length c.memory ≡ 1024 → EngineNoPause layout code c (one_pair x c.memory 1)
engine_goes x g v l =
    let mem = (engine_session g).memory in
    engine_ample layout policy code memory (g ∷ []) v (one_pair x mem 1) (length-set mem 650 x ∙ l) (lit≤ tt) (lit≤ tt)

unread : (us : List ℕ) → us ≡ [] → IsPrefix us readings
unread us e i h = absurd (omega (arith, h, ap (λ (vs : List ℕ). length vs) e))

-- the machine, to its end, to the pause and to the boundary before it
record MachineHolds (x : ℕ) : Type 0 where
  begun : (machine_session (run x)).begun ≡ 8
  over : (machine_session (run x)).machine.status ≡ Ended
  used : IsPrefix (machine_session (run x)).consumed readings
  paused_begun : (machine_session (paused_run x)).begun ≡ 7
  waiting : Waiting layout commands (machine_session (paused_run x)).machine
  paused_used : (machine_session (paused_run x)).consumed ≡ []
  paused_size : length (machine_session (paused_run x)).memory ≡ 1024
  cut_begun : (machine_session (cut_run x)).begun ≡ 6
  boundary : AtBoundary layout (machine_session (cut_run x)).machine
  running : (machine_session (cut_run x)).machine.status ≡ Running
  cut_used : (machine_session (cut_run x)).consumed ≡ []
  cut_size : length (machine_session (cut_run x)).memory ≡ 1024

machine_holds : (x : ℕ) → MachineHolds x
unfolding ones count_leading_zeros right_layout right_policy right_landings bits_from landings_of marked instr_of routine bundles_for word_of shape_of decode_bundle bundle_at
    is_command command_of fetch_of plain_of is_landing install_answer install_memory install_machine effect_of apply_of loop_from run_of begins run_on after_taken after_run
    after_all
machine_holds x =
    record {
      begun = refl;
      over = refl;
      used = λ i h. refl;
      paused_begun = refl;
      waiting = record { running = refl; event = 8; third = refl };
      paused_used = refl;
      paused_size = refl;
      cut_begun = refl;
      boundary = inl refl;
      running = refl;
      cut_used = refl;
      cut_size = refl;
    }

-- and the engine
record EngineHolds (x : ℕ) : Type 0 where
  taken : (refusal_of layout code memory).number ≡ 0
  counted : (engine_session (run x)).counted ≡ 8
  over : (engine_session (run x)).engine.status ≡ Ended
  used : IsPrefix (engine_session (run x)).consumed readings
  paused_counted : (engine_session (paused_run x)).counted ≡ 6
  paused_used : (engine_session (paused_run x)).consumed ≡ []
  paused_size : length (engine_session (paused_run x)).memory ≡ 1024

engine_holds : (x : ℕ) → EngineHolds x
unfolding ones count_leading_zeros right_layout right_policy right_landings bits_from landings_of marked fields_refusal refusal_at first_refused instr_of routine bundles_for
    plain_of install_answer install_memory apply_of checked_event instr_effect instr_effect_at with_state apply_effect loop_from refusal_by engineRunOf engineOn
    engineTaken engineRun after_all
engine_holds x = record { taken = refl; counted = refl; over = refl; used = λ i h. refl; paused_counted = refl; paused_used = refl; paused_size = refl }

engine_premise : (x : ℕ) → EnginePremise layout policy code memory (paused_run x ∷ [])
unfolding each_run
engine_premise x = record { taken = (engine_holds x).taken; installed = installed; preserved = (λ l. kept x, tt) }

pub sample_holds : SampleHolds
unfolding instr_of routine plain_of raw_event raw_exec raw_step raw_after each_run
sample_holds =
    let m = machine_holds in
    let e = engine_holds in
    record {
      sandboxed = λ x k l. record { taken = rewritten; premise = premise (run x) (λ _. kept x); behaved = behaved _ k l (m x).used };
      begun = λ x. (m x).begun;
      over = λ x. (m x).over;
      recorded = refl;
      ended = refl;
      raw_goes_on = refl;
      paused_sandboxed = λ x k l. record { taken = rewritten; premise = premise (paused_run x) (λ _. kept x); behaved = behaved _ k l (unread _ (m x).paused_used) };
      paused_begun = λ x. (m x).paused_begun;
      waiting = λ x. (m x).waiting;
      resumed = λ x. (can_go_on x _ _ (m x).paused_used, machine_goes x (paused_run x) (λ _. kept x) (m x).paused_size);
      cut_sandboxed = λ x k l. record { taken = rewritten; premise = premise (cut_run x) (λ _. kept x); behaved = behaved _ k l (unread _ (m x).cut_used) };
      cut_begun = λ x. (m x).cut_begun;
      boundary = λ x. (m x).boundary;
      running = λ x. (m x).running;
      cut_resumed = λ x. (can_go_on x _ _ (m x).cut_used, machine_goes x (cut_run x) (λ _. kept x) (m x).cut_size);
      engine_premise = λ x. record { taken = (e x).taken; installed = installed; preserved = (λ l. kept x, tt) };
      engine_behaved = λ x k l. behaved _ k l (e x).used;
      counted = λ x. (e x).counted;
      engine_over = λ x. (e x).over;
      engine_paused_premise = engine_premise;
      engine_paused_counted = λ x. (e x).paused_counted;
      engine_paused_behaved = λ x k l. behaved _ k l (unread _ (e x).paused_used);
      engine_resumed = λ x. (can_go_on x _ _ (e x).paused_used, engine_goes x (paused_run x) (engine_premise x) (e x).paused_size);
    }
