-- Samples: answers of the two checks, and routines that satisfy the premises of the claims about runs.
use Rattle.std.specs.Prelude.{ℕ, ◌*◌, ◌≤◌, ◌≡◌, Bool, true, false, cond, List, [], ◌∷◌, map, length, set, replicate}
use Rattle.types.specs.declared.Layout.{Layout}
use Rattle.types.specs.declared.RunAnswer.{RunAnswer}
use Rattle.types.specs.declared.Status.TheVariants.{Running}
use Rattle.types.specs.declared.Ending.TheVariants.{Done, LogFull, Spent}
use Rattle.types.specs.Names.{answer}
use Rattle.types.specs.Records.{layout_of, run_answer}
use Rattle.samples.specs.Tray.{no_limits}
use Rattle.spec.specs.Policies.{Policy, policy_of}
use Rattle.spec.specs.Words.{pack_of, bundles_for}
use Rattle.spec.specs.Bundles.{commands_of, rewrite_answer}
use Rattle.spec.specs.Machines.{install_memory}
use Rattle.spec.specs.Runs.{RunInput, Session, initial_session, after_run, HostPremise, all_runs, after, Every}
use Rattle.spec.specs.Claims.{Resumable, with_budget}
use Rattle.forward_spec.specs.Forward.{forward_answer, check_forward_answer}
use Rattle.forward_spec.specs.Claims.{most_steps, steps_in, ResumedAfter, steps_charged, SufficesFor}

-- SET r0, 70; a GOIF that always goes to v; GOX on r0; order v
abbrev pub plain : ℕ
plain = pack_of 1 0 0 0 0 70

abbrev pub goto : ℕ → ℕ
goto v = pack_of 10 0 0 0 0 v

abbrev pub gox : ℕ
gox = pack_of 11 0 0 0 0 0

abbrev pub order : ℕ → ℕ
order v = pack_of 12 0 0 0 0 v

abbrev pub layout : Layout
layout = layout_of 64 8 15 0 16 1 16 32 no_limits

-- words: none; a jump to n, to itself, back, back from where nothing leads; GOX; and refusals that come before not forward (18), whatever the places.
-- Lists: of forward words; a jump to its own bundle; the first of two bundles that are not forward; and refusals that come before not forward (18)
pub record Answers : Type 0 where
  pub none : forward_answer [] ≡ answer 0 0
  pub end : forward_answer (goto 1 ∷ []) ≡ answer 0 0
  pub self : forward_answer (plain ∷ goto 1 ∷ []) ≡ answer 18 1
  pub back : forward_answer (plain ∷ plain ∷ goto 1 ∷ goto 4 ∷ gox ∷ []) ≡ answer 18 2
  pub unreached : forward_answer (goto 2 ∷ goto 0 ∷ plain ∷ []) ≡ answer 18 1
  pub indirect : forward_answer (goto 2 ∷ gox ∷ []) ≡ answer 18 1
  pub last : forward_answer (gox ∷ plain ∷ goto 4 ∷ []) ≡ answer 8 2
  pub grade : forward_answer (gox ∷ plain ∷ order 16 ∷ []) ≡ answer 4 2
  pub long : forward_answer (replicate 1024 gox) ≡ answer 5 0
  pub list : check_forward_answer layout (commands_of layout (plain ∷ goto 2 ∷ [])) ≡ answer 0 0
  pub list_self : check_forward_answer layout (commands_of layout (plain ∷ goto 1 ∷ [])) ≡ answer 18 1
  pub list_lowest : check_forward_answer layout (commands_of layout (plain ∷ gox ∷ goto 1 ∷ [])) ≡ answer 18 1
  pub list_layout : check_forward_answer (layout_of 64 8 15 0 16 1 16 33 no_limits) (commands_of layout (gox ∷ [])) ≡ answer 7 0
  pub list_count : check_forward_answer layout (gox ∷ []) ≡ answer 12 0
  pub list_base : check_forward_answer layout (commands_of layout (gox ∷ plain ∷ plain ∷ plain ∷ [])) ≡ answer 13 0
  pub list_shape : check_forward_answer layout (set (commands_of layout (gox ∷ [])) 7 1) ≡ answer 11 1

-- two orders and a SET, so N is 4
abbrev pub code : List ℕ
code = order 0 ∷ order 2 ∷ plain ∷ []

abbrev pub commands : List ℕ
commands = commands_of layout code

abbrev pub policy : Policy
policy = policy_of 1 0 (replicate 16 0) []

abbrev pub memory : List ℕ
memory = replicate 64 0

-- a log of one pair, one reading
abbrev pub run_input : List ℕ → RunInput
run_input mem = record { memory = mem; budget = 100; readings = 1800 ∷ []; log = 0 ∷ 0 ∷ [] }

-- a memory after the host wrote x to free cell 5
abbrev pub written : ℕ → List ℕ → List ℕ
written x mem = set mem 5 x

-- two runs. Before each the host writes x
abbrev pub first_run : ℕ → RunInput
first_run x = run_input (written x (install_memory layout policy memory))

abbrev pub left : ℕ → List ℕ
left x = (after_run layout commands (initial_session layout policy memory) (first_run x)).memory

abbrev pub runs : ℕ → List RunInput
runs x = first_run x ∷ run_input (written x (left x)) ∷ []

-- for every x that the host writes, these runs satisfy the premises of Bounded, Finishes and AlwaysFinish. The first one pauses; after it
-- those of TakesStep are satisfied
pub record SampleReaches : Type 0 where
  pub rewritten : rewrite_answer layout code 16 ≡ answer 0 16
  pub forward : forward_answer code ≡ answer 0 0
  pub forward_list : check_forward_answer layout commands ≡ answer 0 0
  pub paused_premise : (x : ℕ) → HostPremise layout policy commands memory (first_run x ∷ [])
  pub running : (x : ℕ) → (after layout policy commands memory (first_run x ∷ [])).machine.status ≡ Running
  pub premise : (x : ℕ) → HostPremise layout policy commands memory (runs x)
  pub resumed : (x : ℕ) → Every (Resumable layout) (runs x)
  pub charged : (x : ℕ) → most_steps 4 ≤ steps_charged (all_runs layout policy commands memory (runs x))
  pub answers : (x : ℕ) → map (λ r. r.result.outcome.answer) (all_runs layout policy commands memory (runs x)) ≡ run_answer LogFull 6 1 0 ∷ run_answer Done 7 1 0 ∷ []
  pub reached : (x : ℕ) → steps_in (all_runs layout policy commands memory (runs x)) ≡ most_steps 4

-- one order, so N is 2, and it takes at most five steps
abbrev pub short : List ℕ
short = order 0 ∷ []

abbrev pub short_commands : List ℕ
short_commands = commands_of layout short

-- a run with budget 1 in the memory that the last run left, after the host wrote x; `true` gives it a free pair and a reading, `false` none
abbrev pub one_step : ℕ → List ℕ → Bool → RunInput
one_step x mem b = record { memory = written x mem; budget = 1; readings = cond b (1800 ∷ []) []; log = cond b (0 ∷ 0 ∷ []) [] }

abbrev pub one_step_each : ℕ → Session → List Bool → List RunInput
one_step_each x c [] = []
one_step_each x c (b ∷ bs) = one_step x c.memory b ∷ one_step_each x (after_run layout short_commands c (one_step x c.memory b)) bs

-- such runs from the installation on
abbrev pub short_runs : ℕ → List Bool → List RunInput
short_runs x bs = one_step_each x (initial_session layout policy memory) bs

-- the third run pauses and the fourth resumes it; the sixth ends, and four more follow
abbrev pub fourth_alone : List Bool
fourth_alone = false ∷ false ∷ false ∷ true ∷ replicate 6 false

abbrev pub stepwise : ℕ → List RunInput
stepwise x = short_runs x fourth_alone

-- five runs, each with a free pair and a reading
abbrev pub five_runs : ℕ → List RunInput
five_runs x = short_runs x (replicate 5 true)

-- one run with such a log and a budget of five steps
abbrev pub whole_run : ℕ → RunInput
whole_run x = with_budget (one_step x (install_memory layout policy memory) true) 5

abbrev pub answers_of : List RunInput → List RunAnswer
answers_of gs = map (λ r. r.result.outcome.answer) (all_runs layout policy short_commands memory gs)

-- for every x these runs satisfy the premises of FinishesResumed
pub record Stepwise : Type 0 where
  pub premise : (x : ℕ) → HostPremise layout policy short_commands memory (stepwise x)
  pub rewritten : rewrite_answer layout short 8 ≡ answer 0 8
  pub forward : forward_answer short ≡ answer 0 0
  pub resumed : (x : ℕ) → ResumedAfter layout false (all_runs layout policy short_commands memory (stepwise x))
  pub memories : (x : ℕ) → Every (λ (g : RunInput). length g.memory ≡ layout.size) (stepwise x)
  pub budgets : (x : ℕ) → Every (λ (g : RunInput). 1 ≤ g.budget) (stepwise x)
  pub enough : (x : ℕ) → 2 * most_steps (bundles_for (length short)) ≤ length (stepwise x)
  pub answers :
      (x : ℕ) →
      answers_of (stepwise x)
      ≡ run_answer Spent 1 0 0 ∷ run_answer Spent 1 0 0 ∷ run_answer LogFull 0 0 0 ∷ run_answer Spent 1 1 0 ∷ run_answer Spent 1 0 0 ∷ run_answer Done 1 0 0 ∷ replicate 4 (run_answer Done 0 0 0)
  -- the five runs satisfy those of RewrittenFinishesIn and, since the list is forward too, of FinishesIn
  pub forward_list : check_forward_answer layout short_commands ≡ answer 0 0
  pub five_premise : (x : ℕ) → HostPremise layout policy short_commands memory (five_runs x)
  pub five_resumable : (x : ℕ) → Every (Resumable layout) (five_runs x)
  pub five_budgets : (x : ℕ) → Every (λ (g : RunInput). 1 ≤ g.budget) (five_runs x)
  pub five_enough : (x : ℕ) → most_steps 2 ≤ length (five_runs x)
  pub five_answers :
      (x : ℕ) → answers_of (five_runs x) ≡ run_answer Spent 1 0 0 ∷ run_answer Spent 1 0 0 ∷ run_answer Spent 1 1 0 ∷ run_answer Spent 1 0 0 ∷ run_answer Done 1 0 0 ∷ []
  -- the one run satisfies those of FinishesAtOnce
  pub whole_premise : (x : ℕ) → HostPremise layout policy short_commands memory (whole_run x ∷ [])
  pub suffices : (x : ℕ) → SufficesFor layout 2 (whole_run x)
  pub whole_answers : (x : ℕ) → answers_of (whole_run x ∷ []) ≡ run_answer Done 5 1 0 ∷ []
