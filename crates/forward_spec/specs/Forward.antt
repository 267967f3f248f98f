-- Request 13, 'Routines that always finish': which routines are forward, and what the two checks answer.
use Rattle.std.specs.Prelude.{ℕ, zero, suc, ◌+◌, ◌-◌, ◌/◌, Bool, true, false, not, cond, List, [], ◌∷◌, length, eqb, ltb}
use Rattle.types.specs.declared.Layout.{Layout}
use Rattle.types.specs.declared.Answer.{Answer}
use Rattle.types.specs.declared.Instr.{Instr}
use Rattle.types.specs.declared.Instr.TheVariants.{HALT, PLAIN, LOAD, STORE, GOIF, GOX, EVENT}
use Rattle.types.specs.declared.Refusal.TheVariants.{Oversize, NotForward}
use Rattle.types.specs.Names.{taken_number, most_instructions, bundle_length, answer, refusal, or_else, first, command}
use Rattle.spec.specs.Words.{kind_of, v_of, refusal_at, first_refused, routine}
use Rattle.spec.specs.Bundles.{bundle_at, check_answer}

-- whether instruction h is forward: 'no GOX and .. every GOIF going to a higher instruction than its own'
unfoldable pub forward_at : ℕ → Instr → Bool
forward_at h HALT = true
forward_at h (PLAIN k d a b v) = true
forward_at h (LOAD d a) = true
forward_at h (STORE a b) = true
forward_at h (GOIF a b c v) = ltb h v
forward_at h (GOX d a b c) = false
forward_at h (EVENT e) = true

-- 'the lowest instruction or bundle that breaks the class is its place', among those from h to h + m − 1
unfoldable pub forward_from : (ℕ → Instr) → ℕ → ℕ → Answer
forward_from is h zero = answer taken_number 0
forward_from is h (suc m) = cond (forward_at h (is h)) (forward_from is (h + 1) m) (refusal NotForward h)

-- the check of guest words: not forward (18) 'comes last, whatever the places: after 5, 3, 2, 4, 8'
unfoldable pub forward_answer : List ℕ → Answer
forward_answer ws =
    first ((ltb most_instructions (length ws), refusal Oversize 0) ∷ [])
    (or_else (first_refused (refusal_at (length ws)) ws 0 (answer taken_number 0)) (forward_from (routine ws) 0 (length ws)))

-- the check of command lists: not forward (18) comes 'after all the checker's refusals'
unfoldable pub check_forward_answer : Layout → List ℕ → Answer
check_forward_answer lay ws = or_else (check_answer lay ws) (forward_from (bundle_at lay ws) 0 (length ws / bundle_length))

-- whether bundle h is forward, by its first word: a GOIF's address, or the SHL with which only a GOX begins
unfoldable pub forward_word : Layout → ℕ → ℕ → Bool
forward_word lay h w = cond (eqb (kind_of w) command.goif) (ltb h ((v_of w - lay.base) / bundle_length)) (not (eqb (kind_of w) command.shl))
