-- The two checks agree, so a rewritten forward routine finishes.
use mathlib.Core.Path.{◌≡◌, refl, sym, ◌∙◌, ap, subst}
use mathlib.Core.Bool.{Bool, true, false}
use mathlib.Core.Logic.{⊎_elim}
use mathlib.Core.List.{List}
use Prim.Native.Nat.{ℕ, zero, suc, ◌+◌, ◌*◌, ◌/◌, ◌<◌, ◌≤◌}
use native.Mathlib.Omega.{arith}
use borrow.Author.Tests.{ltb-true, ltb-false, lt-ltb, le-ltb}
use lib.Dec.{ltb}
use lib.ListN.{length}
use Rattle.types.specs.declared.Layout.{Layout}
use Rattle.types.specs.declared.Answer.{Answer}
use Rattle.types.specs.declared.Instr.{Instr}
use Rattle.types.specs.declared.Instr.TheVariants.{HALT, PLAIN, LOAD, STORE, GOIF, GOX, EVENT}
use Rattle.types.specs.declared.Command.{Command}
use Rattle.types.specs.declared.Command.TheVariants.{Nop, Halt, Plain, Load, Store, GoIf, GoReg, Look, StopIf, Keep, Event, Invalid}
use Rattle.types.specs.Names.{bundle_length, answer}
use Rattle.spec.specs.Words.{refusal_at, routine, bundles_for}
use Rattle.spec.specs.Commands.{fetch_of}
use Rattle.spec.specs.Bundles.{address_of, shape_of, commands_of, rewrite_answer, bundle_at, check_answer}
use Rattle.spec.specs.Policies.{Policy}
use Rattle.spec.specs.Runs.{RunInput, after, HostPremise}
use Rattle.spec.proofs.Bools.{cases}
use Rattle.spec.proofs.Refusals.{none_refused}
use Rattle.spec.proofs.Counts.{length_commands}
use Rattle.spec.proofs.Conditions.{taken_of, size_laws, past_end, bundled_routine}
use Rattle.spec.proofs.Passing.{rewritten_passes, passed_decodes, passed_rewrites}
use Rattle.forward_spec.specs.Forward.{forward_at, forward_from, forward_answer, check_forward_answer}
use Rattle.forward_spec.specs.Claims.{ChecksAgree, ForwardWritten, ForwardRead, Finished, AlwaysFinish, FinishesResumed, RewrittenFinishesIn, Terminated}
use Rattle.forward_spec.proofs.Laws.{words_taken, list_passed}
use Rattle.forward_spec.proofs.Class.{checked, forward_zero}
use Rattle.forward_spec.proofs.Bound.{bounded}
use Rattle.forward_spec.proofs.Finish.{finishes, finishes_in, over_resumed}

-- ---- a bundle's first and fourth commands tell whether it is forward
abbrev no_jump : Command → Bool
no_jump Nop = true
no_jump Halt = true
no_jump (Plain k d a b v) = true
no_jump (Load d a) = true
no_jump (Store a b) = true
no_jump (GoIf a b c v) = true
no_jump (GoReg d a b c) = false
no_jump (Look d v) = true
no_jump (StopIf d) = true
no_jump (Keep d) = true
no_jump (Event v) = true
no_jump Invalid = true

abbrev shown : ℕ → Command → Command → Bool
shown at Nop z = no_jump z
shown at Halt z = no_jump z
shown at (Plain k d a b v) z = no_jump z
shown at (Load d a) z = no_jump z
shown at (Store a b) z = no_jump z
shown at (GoIf a b c v) z = ltb at v
shown at (GoReg d a b c) z = no_jump z
shown at (Look d v) z = no_jump z
shown at (StopIf d) z = no_jump z
shown at (Keep d) z = no_jump z
shown at (Event v) z = no_jump z
shown at Invalid z = no_jump z

higher : (base h v : ℕ) → ltb h v ≡ ltb (base + bundle_length * h) (base + bundle_length * v)
higher base h v =
    ⊎_elim (λ (e : ltb h v ≡ true). let l = ltb-true h v e in e ∙ sym (lt-ltb (base + bundle_length * h) (base + bundle_length * v) (omega arith)))
    (λ (e : ltb h v ≡ false). let l = ltb-false h v e in e ∙ sym (le-ltb (base + bundle_length * h) (base + bundle_length * v) (omega arith)))
    (cases (ltb h v))

forward_shown : (lay : Layout) (n h : ℕ) (i : Instr) → forward_at h i ≡ shown (address_of lay h) (shape_of lay n i 0) (shape_of lay n i 3)
unfolding forward_at shape_of
forward_shown lay n h HALT = refl
forward_shown lay n h (PLAIN k d a b v) = refl
forward_shown lay n h (LOAD d a) = refl
forward_shown lay n h (STORE a b) = refl
forward_shown lay n h (GOIF a b c v) = higher lay.base h v
forward_shown lay n h (GOX d a b c) = refl
forward_shown lay n h (EVENT e) = refl

same_shown : (lay : Layout) (n h : ℕ) (i i' : Instr) → shape_of lay n i 0 ≡ shape_of lay n i' 0 → shape_of lay n i 3 ≡ shape_of lay n i' 3 → forward_at h i ≡ forward_at h i'
same_shown lay n h i i' x y = forward_shown lay n h i ∙ rw (x, y) (sym (forward_shown lay n h i'))

-- ---- the scans of two lists agree if the same instructions are forward in both; HALTs at the end do not matter
scan_same : (is js : ℕ → Instr) (h m : ℕ) → ((j : ℕ) → j < h + m → forward_at j (is j) ≡ forward_at j (js j)) → forward_from is h m ≡ forward_from js h m
unfolding forward_from
scan_same is js h zero e = refl
scan_same is js h (suc m) e = rw (e h (omega arith), scan_same is js (h + 1) m (λ j l. e j (omega arith)))

scan_rest : (is : ℕ → Instr) (h m : ℕ) → ((j : ℕ) → h ≤ j → forward_at j (is j) ≡ true) → forward_from is h m ≡ answer 0 0
unfolding forward_from
scan_rest is h zero e = refl
scan_rest is h (suc m) e = rw (e h (omega arith)) (scan_rest is (h + 1) m (λ j l. e j (omega arith)))

scan_shorter : (is : ℕ → Instr) (h m k : ℕ) → ((j : ℕ) → h + m ≤ j → forward_at j (is j) ≡ true) → m ≤ k → forward_from is h k ≡ forward_from is h m
unfolding forward_from
scan_shorter is h zero k e l = scan_rest is h k (λ j u. e j (omega arith))
scan_shorter is h (suc m) zero e l = absurd (omega arith)
scan_shorter is h (suc m) (suc k) e l = rw (scan_shorter is (h + 1) m k (λ j u. e j (omega arith)) (omega arith))

halts : (code : List ℕ) (j : ℕ) → length code ≤ j → forward_at j (routine code j) ≡ true
unfolding forward_at
halts code j l = rw (past_end code j l)

bundles_in : (k n : ℕ) → k ≡ bundle_length * n → k / bundle_length ≡ n
bundles_in k n e = omega arith

module _ (lay : Layout) (code : List ℕ) (room : ℕ) (z : (rewrite_answer lay code room).number ≡ 0) where
  abbrev ws : List ℕ
  ws = commands_of lay code

  pub count_is : length ws / bundle_length ≡ bundles_for (length code)
  count_is = bundles_in (length ws) (bundles_for (length code)) (length_commands lay code)

  passed : (check_answer lay ws).number ≡ 0
  passed = ap (λ (a : Answer). a.number) (rewritten_passes lay code room z)

  alike : (h : ℕ) → h < bundles_for (length code) → forward_at h (bundle_at lay ws h) ≡ forward_at h (routine code h)
  alike h l =
      let b = bundled_routine lay code room z in
      let d : (p : ℕ) → p < bundle_length → shape_of lay (bundles_for (length code)) (bundle_at lay ws h) p ≡ shape_of lay (bundles_for (length code)) (routine code h) p =
      λ p lp. sym (subst (λ (n : ℕ). fetch_of ws lay.base (address_of lay h + p)
      ≡ shape_of lay n (bundle_at lay ws h) p) count_is (passed_decodes lay ws passed h p (omega (arith, count_is)) lp)) ∙ b.each h p l lp in
      same_shown lay (bundles_for (length code)) h _ _ (d 0 (omega arith)) (d 3 (omega arith))

  words_scan : forward_answer code ≡ forward_from (routine code) 0 (length code)
  words_scan =
      let t = taken_of lay code room z in
      words_taken code t.most (ap (λ (a : Answer). a.number) (none_refused (refusal_at (length code)) code 0 (answer 0 0) t.each))

  list_scan : check_forward_answer lay ws ≡ forward_from (bundle_at lay ws) 0 (bundles_for (length code))
  list_scan = list_passed lay ws passed ∙ ap (forward_from (bundle_at lay ws) 0) count_is

  pub agree : check_forward_answer lay ws ≡ forward_answer code
  agree =
      let s = size_laws lay code (taken_of lay code room z) in
      list_scan ∙ scan_same (bundle_at lay ws) (routine code) 0 (bundles_for (length code)) (λ j l. alike j (omega arith))
      ∙ scan_shorter (routine code) 0 (length code) (bundles_for (length code)) (λ j l. halts code j (omega arith)) (omega (arith, s.above)) ∙ sym words_scan

pub checks_agree : ChecksAgree
checks_agree = agree

-- if nothing is refused, the place is 0
zero_place : (lay : Layout) (ws : List ℕ) → (check_forward_answer lay ws).number ≡ 0 → check_forward_answer lay ws ≡ answer 0 0
zero_place lay ws e = let t = checked lay ws e in list_passed lay ws t.0 ∙ forward_zero (bundle_at lay ws) 0 _ t.1

pub forward_written : ForwardWritten
forward_written lay code room z f = zero_place lay (commands_of lay code) (ap (λ (a : Answer). a.number) (agree lay code room z) ∙ f)

pub forward_read : ForwardRead
forward_read lay ws e =
    let r = passed_rewrites lay ws (checked lay ws e).0 in
    let z : (rewrite_answer lay r.code (length ws)).number ≡ 0 = ap (λ (a : Answer). a.number) r.takes in
    record {
      code = r.code;
      takes = r.takes;
      forward = sym (agree lay r.code (length ws) z) ∙ ap (check_forward_answer lay) r.same ∙ zero_place lay ws e;
      same = r.same;
    }

-- a claim about the commands gives the one about the routine's words
finished : (lay : Layout) (pol : Policy) (code mem : List ℕ) (room : ℕ) (gs : List RunInput) → (rewrite_answer lay code room).number ≡ 0 → (forward_answer code).number ≡ 0 →
    let ws = commands_of lay code in
    HostPremise lay pol ws mem gs → (length ws / bundle_length ≡ bundles_for (length code) → (check_forward_answer lay ws).number ≡ 0
    → Terminated (after lay pol ws mem gs).machine) → Finished lay pol code mem gs
finished lay pol code mem room gs z f v o =
    let e = count_is lay code room z in
    let c : (check_forward_answer lay (commands_of lay code)).number ≡ 0 = ap (λ (a : Answer). a.number) (agree lay code room z) ∙ f in
    let b = bounded lay pol (commands_of lay code) mem gs c v in
    record { over = o e c; within = rw e at b }

pub always_finish : AlwaysFinish
always_finish lay pol code mem room gs z f v charged =
    finished lay pol code mem room gs z f v (λ e c. finishes lay pol (commands_of lay code) mem gs c v (rw e charged))

pub finishes_resumed : FinishesResumed
finishes_resumed lay pol code mem room gs z f v ok m b l =
    finished lay pol code mem room gs z f v (λ e c. over_resumed lay pol (commands_of lay code) mem gs c v ok m b (rw e (omega arith)))

pub rewritten_finishes_in : RewrittenFinishesIn
rewritten_finishes_in lay pol code mem room gs z f v ok b l =
    finished lay pol code mem room gs z f v (λ e c. finishes_in lay pol (commands_of lay code) mem gs c v ok b (rw e (omega arith)))
