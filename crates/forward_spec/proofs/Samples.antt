-- The samples hold, by computation.
use Prim.Native.Nat.{ℕ}
use mathlib.Core.Path.{◌≡◌, refl}
use mathlib.Core.Bool.{Bool, true}
use mathlib.Core.List.{List, [], ◌∷◌}
use lib.Count.{ones, count_leading_zeros}
use lib.Dec.{lit≤}
use lib.ListN.{replicate}
use Rattle.types.specs.Names.{answer}
use Rattle.spec.specs.Layouts.{right_layout, in_box, in_table, in_landings, protected}
use Rattle.spec.specs.Policies.{right_policy}
use Rattle.spec.specs.Landings.{right_landings, landings_of}
use Rattle.spec.specs.Words.{fields_refusal, refusal_at, first_refused, instr_of, routine, bundles_for}
use Rattle.spec.specs.Commands.{is_command, command_of, word_of, fetch_of, plain_of}
use Rattle.spec.specs.Bundles.{shape_of, valid, decode_bundle, bundle_at, is_bundle, shaped_at, passes_at, check_from, check_answer, base_room_answer, rewrite_answer}
use Rattle.spec.specs.Machines.{install_answer, install_memory, install_machine, effect_of, apply_of, run_of, loop_from}
use Rattle.spec.specs.Runs.{Session, initial_session, run_on, after_taken, after_run, LowEqual, MemoriesPreserved, HostPremise, each_run, after_all}
use Rattle.spec.proofs.Bools.{no}
use Rattle.spec.proofs.Noninterference.{free_set}
use Rattle.forward_spec.specs.Forward.{forward_at, forward_from, forward_answer, check_forward_answer}
use Rattle.forward_spec.specs.Sample.{layout, policy, commands, memory, written, left, runs, Answers, SampleReaches, short_commands, one_step, one_step_each, short_runs, fourth_alone, Stepwise}

pub answers : Answers
unfolding ones count_leading_zeros right_layout fields_refusal refusal_at first_refused instr_of routine bundles_for word_of shape_of valid decode_bundle bundle_at is_bundle
    shaped_at passes_at check_from check_answer forward_at forward_from forward_answer check_forward_answer
answers =
    record {
      none = refl;
      end = refl;
      self = refl;
      back = refl;
      unreached = refl;
      indirect = refl;
      last = refl;
      grade = refl;
      long = refl;
      list = refl;
      list_self = refl;
      list_lowest = refl;
      list_layout = refl;
      list_count = refl;
      list_base = refl;
      list_shape = refl;
    }

passed : (check_answer layout commands).number ≡ 0
unfolding ones count_leading_zeros right_layout instr_of routine bundles_for word_of shape_of valid decode_bundle bundle_at is_bundle shaped_at passes_at check_from check_answer
passed = refl

-- the host writes only to a free cell
kept : (x : ℕ) (mem : List ℕ) → LowEqual layout (written x mem) mem
unfolding in_box in_table in_landings protected
kept x mem = free_set layout mem 5 x refl

premise : (x : ℕ) → HostPremise layout policy commands memory (runs x)
unfolding ones right_layout right_policy right_landings install_answer each_run
premise x = record { passed = passed; installed = refl; preserved = (λ l. kept x (install_memory layout policy memory), (λ l. kept x (left x), tt)) }

-- both lists are forward
forward_lists : (check_forward_answer layout commands ≡ answer 0 0) × (check_forward_answer layout short_commands ≡ answer 0 0)
unfolding ones count_leading_zeros right_layout instr_of routine bundles_for word_of shape_of valid decode_bundle bundle_at is_bundle shaped_at passes_at check_from check_answer
    forward_at forward_from check_forward_answer
forward_lists = (refl, refl)

pub reaches : SampleReaches
unfolding ones count_leading_zeros right_layout right_policy right_landings landings_of fields_refusal refusal_at first_refused instr_of routine bundles_for word_of shape_of
    is_command command_of fetch_of plain_of install_answer install_memory install_machine effect_of apply_of loop_from run_of run_on after_taken after_run after_all each_run
    base_room_answer rewrite_answer forward_at forward_from forward_answer
reaches =
    record {
      rewritten = refl;
      forward = refl;
      forward_list = forward_lists.0;
      paused_premise = λ x. record { passed = passed; installed = (premise x).installed; preserved = ((premise x).preserved.0, tt) };
      running = λ x. refl;
      premise = premise;
      resumed = λ x. (record { memory = refl; log = lit≤ tt; readings = lit≤ tt }, (record { memory = refl; log = lit≤ tt; readings = lit≤ tt }, tt));
      charged = λ x. lit≤ tt;
      answers = λ x. refl;
      reached = λ x. refl;
    }

-- each run of one step is lent the memory that the last one left, except in the free cell that the host wrote
lends : (x : ℕ) (c : Session) (bs : List Bool) → MemoriesPreserved layout short_commands c (one_step_each x c bs)
unfolding each_run
lends x c [] = tt
lends x c (b ∷ bs) = (λ l. kept x c.memory, lends x (after_run layout short_commands c (one_step x c.memory b)) bs)

short_passed : (check_answer layout short_commands).number ≡ 0
unfolding ones count_leading_zeros right_layout instr_of routine bundles_for word_of shape_of valid decode_bundle bundle_at is_bundle shaped_at passes_at check_from check_answer
short_passed = refl

short_premise : (x : ℕ) (bs : List Bool) → HostPremise layout policy short_commands memory (short_runs x bs)
short_premise x bs = record { passed = short_passed; installed = (premise x).installed; preserved = lends x (initial_session layout policy memory) bs }

pub stepwise_holds : Stepwise
unfolding ones count_leading_zeros right_layout right_policy right_landings landings_of fields_refusal refusal_at first_refused instr_of routine bundles_for word_of shape_of
    is_command command_of fetch_of plain_of install_answer install_memory install_machine effect_of apply_of loop_from run_of run_on after_taken after_run each_run
    base_room_answer rewrite_answer forward_at forward_from forward_answer
stepwise_holds =
    record {
      premise = λ x. short_premise x fourth_alone;
      rewritten = refl;
      forward = refl;
      resumed = λ x. (
        λ e. no e,
        (
          λ e. no e,
          (
            λ e. no e,
            (
              λ e. record { memory = refl; log = lit≤ tt; readings = lit≤ tt },
              (λ e. no e, (λ e. no e, (λ e. no e, (λ e. no e, (λ e. no e, (λ e. no e, tt)))))),
            ),
          ),
        ),
      );
      memories = λ x. (refl, (refl, (refl, (refl, (refl, (refl, (refl, (refl, (refl, (refl, tt))))))))));
      budgets = λ x. (lit≤ tt, (lit≤ tt, (lit≤ tt, (lit≤ tt, (lit≤ tt, (lit≤ tt, (lit≤ tt, (lit≤ tt, (lit≤ tt, (lit≤ tt, tt))))))))));
      enough = λ x. lit≤ tt;
      answers = λ x. refl;
      forward_list = forward_lists.1;
      five_premise = λ x. short_premise x (replicate 5 true);
      five_resumable = λ x. (
        record { memory = refl; log = lit≤ tt; readings = lit≤ tt },
        (
          record { memory = refl; log = lit≤ tt; readings = lit≤ tt },
          (
            record { memory = refl; log = lit≤ tt; readings = lit≤ tt },
            (record { memory = refl; log = lit≤ tt; readings = lit≤ tt }, (record { memory = refl; log = lit≤ tt; readings = lit≤ tt }, tt)),
          ),
        ),
      );
      five_budgets = λ x. (lit≤ tt, (lit≤ tt, (lit≤ tt, (lit≤ tt, (lit≤ tt, tt)))));
      five_enough = λ x. lit≤ tt;
      five_answers = λ x. refl;
      whole_premise = λ x. record { passed = short_passed; installed = (premise x).installed; preserved = ((premise x).preserved.0, tt) };
      suffices = λ x. record { memory = refl; budget = lit≤ tt; log = lit≤ tt; readings = lit≤ tt };
      whole_answers = λ x. refl;
    }
