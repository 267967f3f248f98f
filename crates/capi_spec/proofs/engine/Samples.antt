-- The premises of the claims about a host's calls of the engine can be met, and the definitions compute.
use Prim.Native.Nat.{ℕ}
use mathlib.Core.Path.{◌≡◌, refl}
use native.Mathlib.Omega.{arith}
use lib.Count.{ones, count_leading_zeros}
use lib.ListN.{replicate}
use Rattle.spec.specs.Layouts.{right_layout, in_box, in_table, in_landings, protected}
use Rattle.spec.specs.Policies.{right_policy}
use Rattle.spec.specs.Landings.{right_landings, bits_from, landings_of}
use Rattle.spec.specs.Words.{fields_refusal, refusal_at, first_refused, instr_of, routine, bundles_for}
use Rattle.spec.specs.Bytes.{byte_at, quad_at, fields_at, decode_fields, decode_map, decode_one, scan_of, words_of, read_answer}
use Rattle.spec.specs.Commands.{is_command, command_of, word_of, fetch_of, plain_of}
use Rattle.spec.specs.Bundles.{shape_of, base_room_answer, rewrite_answer, valid, decode_bundle, bundle_at, is_bundle, shaped_at, passes_at, check_from, check_answer}
use Rattle.spec.specs.Machines.{install_answer, install_memory, install_machine, apply_of, loop_from}
use Rattle.spec.specs.Runs.{each_run}
use Rattle.sandbox_spec.specs.Loading.{translate_answer, load_answer, load_commands, load_memory, load_machine}
use Rattle.spec.proofs.Noninterference.{free_set}
use Rattle.capi_spec.specs.Numbers.{layout_from}
use Rattle.capi_spec.specs.Hosts.{check_for, install_for, load_for}
use Rattle.capi_spec.specs.Claims.{calls_of}
use Rattle.capi_spec.specs.Sample.{layout, bytes, first_load}
use Rattle.engine_spec.specs.Engines.{checked_event, instr_effect, instr_effect_at, with_state, apply_effect, refusal_by, run_of}
use Rattle.engine_spec.specs.Claims.{run_on, after_taken, after_run}
use Rattle.capi_spec.specs.engine.Records.{engine_for, continue_for}
use Rattle.engine_spec.specs.Continues.{reached_effect, continue_refusal, continue_of, call_of, call_refusal, call_on, after_call, each_call}
use Rattle.capi_spec.specs.engine.Claims.{loaded, CallsPreserved, entry_for}
use Rattle.capi_spec.specs.engine.Sample.{words, left, calls, SampleHolds}

pub sample_holds : SampleHolds
unfolding ones count_leading_zeros layout_from right_layout right_policy right_landings in_box in_table in_landings protected bits_from landings_of fields_refusal refusal_at
    first_refused byte_at quad_at fields_at decode_fields decode_map decode_one scan_of words_of read_answer instr_of routine bundles_for word_of shape_of base_room_answer
    rewrite_answer valid decode_bundle bundle_at is_bundle shaped_at passes_at check_from check_answer is_command command_of fetch_of plain_of install_answer install_memory
    install_machine translate_answer load_answer load_commands load_memory load_machine apply_of loop_from check_for install_for load_for checked_event instr_effect
    instr_effect_at with_state apply_effect refusal_by run_of run_on after_taken after_run engine_for calls_of each_run reached_effect continue_refusal continue_of each_call
    continue_for entry_for call_of call_refusal call_on after_call
sample_holds =
    let l = layout_from layout in
    let kept : (x : ℕ) → CallsPreserved layout words first_load.memory (calls x) =
    λ x. (λ _. free_set l first_load.memory 9 x refl, (λ e. absurd (let z : ◌≡◌ {A = ℕ} 0 128 = e in omega arith), (λ _. free_set l (left x) 8 x refl, tt))) in
    record {
      installed_memory = loaded bytes (replicate 40 0) refl;
      taken = refl;
      preserved = kept;
      alike = λ x y. (
        record { readings = refl; budget = refl; log = refl; memory = refl },
        (record { readings = refl; budget = refl; log = refl; memory = refl }, (record { readings = refl; budget = refl; log = refl; memory = refl }, tt)),
      );
      answers = λ x. refl;
      mixed = kept;
      mixed_answers = λ x. refl;
      unjudged = λ x. (λ _. free_set l first_load.memory 9 x refl, (λ _. free_set l first_load.memory 9 x refl, (λ _ i f. refl, tt)));
      unjudged_alike = λ x y. (
        record { entry = refl; inputs = record { readings = refl; budget = refl; log = refl; memory = refl } },
        (
          record { entry = refl; inputs = record { readings = refl; budget = refl; log = refl; memory = refl } },
          (record { entry = refl; inputs = record { readings = refl; budget = refl; log = refl; memory = refl } }, tt),
        ),
      );
      faulted = λ x. refl;
    }
