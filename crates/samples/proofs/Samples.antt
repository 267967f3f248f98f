-- The premises of the claims can be met, and the definitions compute.
use mathlib.Core.Path.{◌≡◌, refl, sym, ◌∙◌, ap}
use mathlib.Core.List.{List, [], ◌∷◌}
use Prim.Native.Nat.{ℕ}
use native.Mathlib.Omega.{arith}
use lib.Count.{ones, count_leading_zeros}
use lib.ListN.{set, replicate}
use Rattle.types.specs.declared.Status.TheVariants.{Running, Stopped}
use Rattle.types.specs.Names.{top_guest}
use Rattle.spec.specs.Layouts.{right_layout, in_box, in_table, in_landings, protected}
use Rattle.spec.specs.Policies.{right_policy}
use Rattle.spec.specs.Landings.{right_landings, bits_from, landings_of}
use Rattle.spec.specs.Words.{instr_of, routine, bundles_for}
use Rattle.spec.specs.Commands.{is_command, command_of, word_of, fetch_of, plain_of}
use Rattle.spec.specs.Bundles.{shape_of, valid, decode_bundle, bundle_at, is_bundle, shaped_at, passes_at, check_from, check_answer}
use Rattle.spec.specs.Machines.{install_answer, install_memory, install_machine, effect_of, apply_of, run_of, loop_from}
use Rattle.spec.specs.Guests.{pair_of, Guest, guest_of, exec_event, exec_instr, guest_step, guest_after, guest_start}
use Rattle.spec.specs.Runs.{Pairwise, each_run, after_all, begins, run_on, after_taken, after_run, LowEqual, HostPremise, all_runs}
use Rattle.spec.specs.Claims.{SameInputs, SameObservations}
use Rattle.samples.specs.Sample.{layout, policy, code, commands, memory, written, first_memory, left, runs, SampleHolds}
use Rattle.spec.proofs.Noninterference.{free_set}
use Rattle.spec.proofs.Isolation.{isolation}

passed : (check_answer layout commands).number ≡ 0
unfolding ones count_leading_zeros right_layout instr_of routine bundles_for word_of shape_of valid decode_bundle bundle_at is_bundle shaped_at passes_at check_from check_answer
passed = refl

-- the host writes only to a free cell
pub written_kept : (x : ℕ) (mem : List ℕ) → LowEqual layout (written x mem) mem
unfolding in_box in_table in_landings protected
written_kept x mem = free_set layout mem 650 x refl

pub first_kept : (x : ℕ) → LowEqual layout (first_memory x) (install_memory layout policy (memory x))
first_kept x = written_kept x (install_memory layout policy (memory x))

premise_with : (x : ℕ) → HostPremise layout policy commands (memory x) (runs x)
unfolding ones right_layout right_policy right_landings install_answer in_box in_table in_landings protected after_run each_run
premise_with x =
    record {
      passed = passed;
      installed = refl;
      preserved = (
        λ l. first_kept x,
        (λ l. absurd (let z : ◌≡◌ {A = ℕ} 0 1024 = l in omega arith), (λ l. free_set layout (left x) 600 x refl, tt)),
      );
    }

installed_with : (x : ℕ) → install_memory layout policy (memory x) ≡ set (install_memory layout policy (memory 0)) 700 x
unfolding ones right_layout right_policy right_landings bits_from landings_of install_answer install_memory
installed_with x = refl

alike_in : (x y : ℕ) → LowEqual layout (install_memory layout policy (memory x)) (install_memory layout policy (memory y))
unfolding in_box in_table in_landings protected
alike_in x y =
    let mem = install_memory layout policy (memory 0) in
    rw (installed_with x, installed_with y) (λ i s. free_set layout mem 700 x refl i s ∙ sym (free_set layout mem 700 y refl i s))

given_alike : (x y : ℕ) → Pairwise SameInputs (runs x) (runs y)
unfolding ones count_leading_zeros right_layout right_policy right_landings bits_from landings_of instr_of routine bundles_for word_of shape_of is_command command_of fetch_of
    plain_of install_answer install_memory install_machine effect_of apply_of loop_from run_of run_on after_taken after_run
given_alike x y = (
  record { readings = refl; budget = refl; log = refl; memory = refl },
  (
    record { readings = refl; budget = refl; log = refl; memory = refl },
    (record { readings = refl; budget = refl; log = refl; memory = refl }, tt),
  ),
)

same_with : (x y : ℕ) → Pairwise (SameObservations layout) (all_runs layout policy commands (memory x) (runs x)) (all_runs layout policy commands (memory y) (runs y))
same_with x y = (isolation layout policy commands (memory x) (runs x) (premise_with x)).noninterference policy (memory y) (runs y) (premise_with y) (alike_in x y) (given_alike x y)

-- the guest, instruction by instruction
guest_with : (x : ℕ) → (guest_after layout policy 8 (routine code) [] (guest_start layout policy (install_memory layout policy (memory x))) 4).records ≡ pair_of 0 70 ∷ pair_of 2 70 ∷ []
unfolding guest_after guest_step exec_instr exec_event plain_of instr_of routine
guest_with x =
    let g = guest_start layout policy (install_memory layout policy (memory x)) in
    let step : Guest → Guest = guest_step layout policy 8 (routine code) [] in
    let regs : List ℕ = 70 ∷ replicate top_guest 0 in
    let one : step g ≡ guest_of regs 1 g.box 0 [] 0 Running = refl in
    let two : step (step g) ≡ guest_of regs 2 g.box 0 (pair_of 0 70 ∷ []) 0 Running = ap step one in
    let three : step (step (step g)) ≡ guest_of regs 3 g.box 1 (pair_of 0 70 ∷ pair_of 2 70 ∷ []) 0 Running = ap step two in
    let four : step (step (step (step g))) ≡ guest_of regs 3 g.box 1 (pair_of 0 70 ∷ pair_of 2 70 ∷ []) 0 Stopped = ap step three in
    ap (λ (y : Guest). y.records) four

pub sample_holds : SampleHolds
unfolding ones count_leading_zeros right_layout right_policy right_landings bits_from landings_of instr_of routine bundles_for word_of shape_of decode_bundle bundle_at is_command
    command_of fetch_of plain_of install_answer install_memory install_machine effect_of apply_of loop_from run_of begins run_on after_taken after_run after_all each_run
sample_holds =
    record {
      premise = premise_with;
      matches = alike_in;
      alike = given_alike;
      same = same_with;
      answers = λ x. refl;
      recorded = λ x. refl;
      state = λ x. refl;
      begun = λ x. refl;
      guest = guest_with;
      paused = λ x. refl;
      paused_premise = λ x. record { passed = passed; installed = refl; preserved = (λ l. first_kept x, tt) };
      waiting = λ x. record { running = refl; event = 0; third = refl };
      waiting_begun = λ x. refl;
      late = λ x. refl;
      late_premise = λ x. record { passed = passed; installed = refl; preserved = (λ l. first_kept x, tt) };
      pending = λ x. refl;
      behind = λ x. refl;
      reading = λ x. refl;
    }
