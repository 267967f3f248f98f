-- Bounds of the two checks' answers.
use mathlib.Core.List.{List}
use Prim.Native.Nat.{ℕ, zero, suc, ◌+◌, ◌/◌, ◌≤◌}
use native.Mathlib.Omega.{arith}
use borrow.Author.Tests.{ltb-false}
use lib.Dec.{lit<, ltb}
use lib.ListN.{length}
use Rattle.types.specs.declared.Layout.{Layout}
use Rattle.types.specs.declared.Instr.{Instr}
use Rattle.types.specs.Names.{most_instructions, bundle_length, answer}
use Rattle.spec.specs.Words.{refusal_at, routine}
use Rattle.spec.specs.Bundles.{bundle_at, check_answer}
use Rattle.spec.proofs.Bools.{cond_ind}
use Rattle.spec.proofs.Counts.{Bounded, at_start, or_else_lem, first_bound, refusal_at_small, check_bound}
use Rattle.spec.proofs.Conditions.{passed_of}
use Rattle.forward_spec.specs.Forward.{forward_at, forward_from, forward_answer, check_forward_answer}

scan_bound : (is : ℕ → Instr) (h m top : ℕ) → h + m ≤ top + 1 → Bounded top 0 (forward_from is h m)
unfolding forward_from
scan_bound is h zero top k = at_start _ _ _ (lit< tt)
scan_bound is h (suc m) top k =
    cond_ind (Bounded top 0) (forward_at h (is h)) (λ _. scan_bound is (h + 1) m top (omega arith))
    (λ _. record { number = lit< tt; place = omega arith; taken = λ z. absurd (omega arith) })

-- a place is an instruction or a bundle, at most 1,023
pub forward_bound : (ws : List ℕ) → Bounded most_instructions 0 (forward_answer ws)
unfolding forward_answer
forward_bound ws =
    cond_ind (Bounded most_instructions 0) (ltb most_instructions (length ws)) (λ _. at_start _ _ _ (lit< tt))
    (λ e. let n : length ws ≤ most_instructions = ltb-false _ _ e in
    let b = first_bound (refusal_at (length ws)) (refusal_at_small (length ws)) ws 0 most_instructions 0 (answer 0 0) (omega arith) (at_start _ _ _ (lit< tt)) in
    or_else_lem most_instructions 0 _ _ b.number b.place (λ _. scan_bound (routine ws) 0 (length ws) most_instructions (omega arith)))

pub check_forward_bound : (lay : Layout) (ws : List ℕ) → Bounded most_instructions 0 (check_forward_answer lay ws)
unfolding check_forward_answer
check_forward_bound lay ws =
    let b = check_bound lay ws in
    or_else_lem most_instructions 0 (check_answer lay ws) _ b.number b.place
    (λ z. scan_bound (bundle_at lay ws) 0 (length ws / bundle_length) most_instructions (omega (arith, (passed_of lay ws z).most)))
