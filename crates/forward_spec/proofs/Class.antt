-- What the answers of the two checks say about the instructions.
use mathlib.Core.Path.{◌≡◌, refl, sym, ◌∙◌, ap}
use mathlib.Core.Bool.{true}
use mathlib.Core.Logic.{⊎_elim}
use mathlib.Core.List.{List}
use Prim.Native.Nat.{ℕ, zero, suc, ◌+◌, ◌/◌, ◌<◌, ◌≤◌}
use native.Mathlib.Omega.{arith}
use borrow.Author.Tests.{eqb-true, eqb-false}
use lib.Dec.{eqb}
use lib.ListN.{length}
use Rattle.types.specs.declared.Layout.{Layout}
use Rattle.types.specs.declared.Answer.{Answer}
use Rattle.types.specs.declared.Instr.{Instr}
use Rattle.types.specs.Names.{bundle_length, answer}
use Rattle.spec.specs.Bundles.{bundle_at, check_answer}
use Rattle.spec.proofs.Bools.{cases}
use Rattle.forward_spec.specs.Forward.{forward_at, forward_from, check_forward_answer}
use Rattle.forward_spec.proofs.Laws.{breaks_here, goes_past, list_refused, list_passed}

-- every instruction below n is forward
abbrev pub AllForward : ℕ → (ℕ → Instr) → Type 0
AllForward n is = (h : ℕ) → h < n → forward_at h (is h) ≡ true

forward_from_lem : (is : ℕ → Instr) (h m : ℕ) → (forward_from is h m).number ≡ 0 → (j : ℕ) → h ≤ j → j < h + m → forward_at j (is j) ≡ true
forward_from_lem is h zero e j l u = absurd (omega arith)
forward_from_lem is h (suc m) e j l u =
    ⊎_elim
    (λ t.
    let r = sym (ap (λ (a : Answer). a.number) (goes_past is h m t)) ∙ e in
    ⊎_elim (λ q. rw (eqb-true j h q) t) (λ q. forward_from_lem is (h + 1) m r j (omega (arith, eqb-false j h q)) (omega arith)) (cases (eqb j h)))
    (λ t. absurd (omega (arith, ap (λ (a : Answer). a.number) (breaks_here is h m t))))
    (cases (forward_at h (is h)))

pub all_forward : (is : ℕ → Instr) (n : ℕ) → (forward_from is 0 n).number ≡ 0 → AllForward n is
all_forward is n e h l = forward_from_lem is 0 n e h (omega arith) (omega arith)

-- if nothing is refused, the place is 0
pub forward_zero : (is : ℕ → Instr) (h m : ℕ) → (forward_from is h m).number ≡ 0 → forward_from is h m ≡ answer 0 0
forward_zero is h zero e = unfold forward_from in refl
forward_zero is h (suc m) e =
    ⊎_elim
    (λ t. let p = goes_past is h m t in p ∙ forward_zero is (h + 1) m (sym (ap (λ (a : Answer). a.number) p) ∙ e))
    (λ t. absurd (omega (arith, ap (λ (a : Answer). a.number) (breaks_here is h m t))))
    (cases (forward_at h (is h)))

-- a forward list passes the checker, and its bundles are forward
pub checked : (lay : Layout) (ws : List ℕ) → (check_forward_answer lay ws).number ≡ 0 → ((check_answer lay ws).number ≡ 0) × ((forward_from (bundle_at lay ws) 0 (length ws / bundle_length)).number ≡ 0)
checked lay ws e =
    ⊎_elim
    (λ t. let z = eqb-true _ _ t in (z, sym (ap (λ (a : Answer). a.number) (list_passed lay ws z)) ∙ e))
    (λ t. let f = eqb-false (check_answer lay ws).number 0 t in absurd (f (sym (ap (λ (a : Answer). a.number) (list_refused lay ws f)) ∙ e)))
    (cases (eqb (check_answer lay ws).number 0))

pub class_of : (lay : Layout) (ws : List ℕ) → (check_forward_answer lay ws).number ≡ 0 → AllForward (length ws / bundle_length) (bundle_at lay ws)
class_of lay ws e = all_forward (bundle_at lay ws) _ (checked lay ws e).1
