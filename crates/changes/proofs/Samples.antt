-- The premises can be met, and the definitions compute.
use Prim.Native.Nat.{ℕ, zero, suc, ◌<◌}
use mathlib.Core.Path.{◌≡◌, refl, ap}
use mathlib.Core.Bool.{true, false}
use native.Mathlib.Omega.{arith}
use lib.Count.{ones, count_leading_zeros}
use lib.Dec.{lit<, lit≤}
use Rattle.types.specs.declared.Answer.{Answer}
use Rattle.types.specs.Names.{answer}
use Rattle.spec.specs.Layouts.{right_layout}
use Rattle.spec.specs.Policies.{right_policy}
use Rattle.spec.specs.Landings.{right_landings, bits_from, landings_of}
use Rattle.spec.specs.Words.{instr_of, routine, bundles_for}
use Rattle.spec.specs.Commands.{is_command, command_of, word_of, fetch_of, plain_of}
use Rattle.spec.specs.Bundles.{shape_of, valid, decode_bundle, bundle_at, is_bundle, shaped_at, passes_at, check_from, check_answer}
use Rattle.spec.specs.Machines.{install_answer, install_memory, install_machine, effect_of, apply_of, run_of, loop_from}
use Rattle.samples.specs.Sample.{layout}
use Rattle.changes.specs.Claims.{run_before, hidden_before, names_hidden, fields_below, PassesWith}
use Rattle.changes.specs.Sample.{setting, SampleHolds}
use Rattle.changes.proofs.Before.{lists_before}

passes : check_answer layout setting ≡ answer 0 0
unfolding ones count_leading_zeros right_layout instr_of routine bundles_for word_of shape_of valid decode_bundle bundle_at is_bundle shaped_at passes_at check_from check_answer
passes = refl

without_hidden : (h : ℕ) → h < 2 → (names_hidden (bundle_at layout setting h) ≡ false) × (fields_below hidden_before (bundle_at layout setting h) ≡ true)
unfolding count_leading_zeros instr_of routine bundles_for word_of shape_of decode_bundle bundle_at
without_hidden zero l = (refl, refl)
without_hidden (suc zero) l = (refl, refl)
without_hidden (suc (suc h)) l = absurd (omega (arith, l))

passed_before : PassesWith hidden_before layout setting 2 (bundle_at layout setting)
unfolding count_leading_zeros bundles_for
passed_before = (lists_before layout setting).before without_hidden (ap (λ (a : Answer). a.number) passes)

pub sample_holds : SampleHolds
unfolding ones count_leading_zeros right_layout right_policy right_landings bits_from landings_of instr_of routine bundles_for word_of shape_of valid decode_bundle bundle_at
    is_bundle shaped_at passes_at check_from check_answer is_command command_of fetch_of plain_of install_answer install_memory install_machine effect_of apply_of loop_from
    run_of run_before
sample_holds =
    record {
      paused_both = λ x. record { full = refl; event = 9; command = refl; both = (lit≤ tt, refl, lit< tt) };
      gave = λ x. refl;
      gives = λ x. refl;
      placed = record { layout = refl; count = refl; base = refl };
      event = refl;
      look = refl;
      refused = refl;
      without_hidden = without_hidden;
      passed_before = passed_before;
      passes = passes;
    }
