-- Shows that the premises of this crate's claims can be met: a run that both pauses stop, and lists written before [6] and [12].
use Rattle.std.specs.Prelude.{ℕ, ◌<◌, ◌≡◌, true, false, List, [], ◌∷◌, ◌++◌, get_or, take}
use Rattle.types.specs.declared.Instr.TheVariants.{EVENT}
use Rattle.types.specs.declared.Ending.TheVariants.{LogFull, Silent}
use Rattle.types.specs.Names.{guest, bundle_length, answer}
use Rattle.types.specs.Records.{run_answer}
use Rattle.spec.specs.Words.{pack_of}
use Rattle.spec.specs.Commands.{word_of}
use Rattle.spec.specs.Bundles.{shape_with, bundle_at, commands_of, check_answer}
use Rattle.spec.specs.Machines.{RunResult, run_of, install_machine}
use Rattle.spec.specs.Claims.{Placed}
use Rattle.samples.specs.Sample.{layout, policy, memory, first_memory, probing}
use Rattle.changes.specs.Claims.{run_before, PausedBoth, hidden_before, names_hidden, fields_below, PassesWith, old_event}

-- [4]: a run of EVENT 9, with neither log nor readings, before the request and today
abbrev pub silent_before : ℕ → RunResult
silent_before x = run_before layout probing (install_machine layout policy (memory x)) (first_memory x) 1000 [] []

abbrev pub silent_today : ℕ → RunResult
silent_today x = run_of layout probing (install_machine layout policy (memory x)) (first_memory x) 1000 [] []

-- [6] and [12]: EVENT 9 as it was written before both, then HALT
abbrev pub old_probing : List ℕ
old_probing = old_event hidden_before 9 ++ commands_of layout []

-- [6]: SET r0, 70, whose bundle does not name the hidden register, then HALT
abbrev pub setting : List ℕ
setting = commands_of layout (pack_of guest.set 0 0 0 0 70 ∷ [])

-- 'it gave 23 and gives 24', for every x that the host writes. The old list has an event in its first bundle and is refused there.
-- The list of SET names no hidden register; it passed before and passes today
pub record SampleHolds : Type 0 where
  pub paused_both : (x : ℕ) → PausedBoth layout probing [] (silent_before x)
  pub gave : (x : ℕ) → (silent_before x).outcome.answer ≡ run_answer LogFull 2 0 0
  pub gives : (x : ℕ) → (silent_today x).outcome.answer ≡ run_answer Silent 2 0 0
  pub placed : Placed layout old_probing 2
  pub event : take bundle_length old_probing ≡ old_event hidden_before 9
  pub look : get_or old_probing 0 0 ≡ word_of (shape_with hidden_before layout 2 (EVENT 9) 0)
  pub refused : check_answer layout old_probing ≡ answer 11 0
  pub without_hidden : (h : ℕ) → h < 2 → (names_hidden (bundle_at layout setting h) ≡ false) × (fields_below hidden_before (bundle_at layout setting h) ≡ true)
  pub passed_before : PassesWith hidden_before layout setting 2 (bundle_at layout setting)
  pub passes : check_answer layout setting ≡ answer 0 0
