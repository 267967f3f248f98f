-- The premises of HostIsolation and HostNoninterference can be met, and the definitions compute.
use Prim.Native.Nat.{ℕ}
use mathlib.Core.Path.{◌≡◌, refl}
use native.Mathlib.Omega.{arith}
use lib.Count.{ones, count_leading_zeros}
use lib.ListN.{replicate}
use Rattle.spec.specs.Layouts.{right_layout, in_box, in_table, in_landings, protected}
use Rattle.spec.specs.Policies.{right_policy}
use Rattle.spec.specs.Landings.{right_landings, bits_from, landings_of}
use Rattle.spec.specs.Words.{fields_refusal, refusal_at, first_refused, instr_of, routine, bundles_for}
use Rattle.spec.specs.Bytes.{byte_at, quad_at, fields_at, decode_fields, decode_map, decode_one, scan_of, words_of, read_answer}
use Rattle.spec.specs.Commands.{is_command, command_of, word_of, fetch_of, plain_of}
use Rattle.spec.specs.Bundles.{shape_of, base_room_answer, rewrite_answer, valid, decode_bundle, bundle_at, is_bundle, shaped_at, passes_at, check_from, check_answer}
use Rattle.spec.specs.Machines.{install_answer, install_memory, install_machine, effect_of, apply_of, run_of, loop_from}
use Rattle.sandbox_spec.specs.Loading.{translate_answer, load_answer, load_commands, load_memory, load_machine}
use Rattle.spec.specs.Runs.{run_on, after_taken, after_run, each_run}
use Rattle.spec.proofs.Noninterference.{free_set}
use Rattle.capi_spec.specs.Numbers.{layout_from}
use Rattle.capi_spec.specs.Hosts.{check_for, install_for, load_for, run_for}
use Rattle.capi_spec.specs.Claims.{calls_of, installed, loaded}
use Rattle.capi_spec.specs.Sample.{layout, bytes, first_load, left, next, SampleHolds}

pub sample_holds : SampleHolds
unfolding ones count_leading_zeros layout_from right_layout right_policy right_landings in_box in_table in_landings protected bits_from landings_of fields_refusal refusal_at
    first_refused byte_at quad_at fields_at decode_fields decode_map decode_one scan_of words_of read_answer instr_of routine bundles_for word_of shape_of base_room_answer
    rewrite_answer valid decode_bundle bundle_at is_bundle shaped_at passes_at check_from check_answer is_command command_of fetch_of plain_of install_answer install_memory
    install_machine translate_answer load_answer load_commands load_memory load_machine effect_of apply_of loop_from run_of run_on after_taken after_run check_for install_for
    load_for run_for calls_of each_run
sample_holds =
    let l = layout_from layout in
    record {
      loaded = refl;
      ready = loaded bytes (replicate 40 0) refl;
      preserved = λ x. (λ _. free_set l first_load.memory 9 x refl, (λ e. absurd (let z : ◌≡◌ {A = ℕ} 0 128 = e in omega arith), (λ _. free_set l (left x) 8 x refl, tt)));
      alike = λ x y. (
        record { readings = refl; budget = refl; log = refl; memory = refl },
        (record { readings = refl; budget = refl; log = refl; memory = refl }, (record { readings = refl; budget = refl; log = refl; memory = refl }, tt)),
      );
      answers = λ x. refl;
      again = λ x. installed _ refl refl;
      again_preserved = λ x. (λ _. free_set l (next x).memory 8 x refl, tt);
      ended = λ x. refl;
    }
