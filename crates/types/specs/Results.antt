-- What the code's results are in the paper's terms: an answer's number and place, an instruction that was read, a record that was installed.
use Rattle.std.specs.Prelude.{ℕ, Result, Ok, Err}
use Rattle.types.specs.declared.Machine.{Machine}
use Rattle.types.specs.declared.Answer.{Answer}
use Rattle.types.specs.declared.Refusal.{Refusal}
use Rattle.types.specs.declared.Reject.{Reject}
use Rattle.types.specs.Names.{taken_number, number_of, answer, refusal}
use Rattle.types.specs.Records.{machine_refused}

-- a refusal at a place
abbrev pub reject_at : Refusal → ℕ → Reject
reject_at x p = record { refusal = x; place = p }

-- the answer of a refusal
abbrev pub rejected : Reject → Answer
rejected e = refusal e.refusal e.place

-- the answer of a result: `place` gives that of a success
abbrev pub answer_with : {A : Type 0} → (A → ℕ) → Result A Reject → Answer
answer_with place (Ok x) = answer taken_number (place x)
answer_with place (Err e) = rejected e

-- of a result that says how much was written, and of one that says nothing else
abbrev pub answer_of : Result ℕ Reject → Answer
answer_of r = answer_with (λ n. n) r

abbrev pub verdict_of : Result Unit Reject → Answer
verdict_of r = answer_with (λ _. 0) r

-- the number of a test's refusal, or 0
abbrev pub refusal_number : Result Unit Refusal → ℕ
refusal_number (Ok _) = taken_number
refusal_number (Err x) = number_of x

-- ---- reading

-- the result of reading one instruction: its word and how many bytes it took, or the refusal's number
pub data Decoded : Type 0 where
  Word : ℕ → ℕ → Decoded
  RefusedWith : ℕ → Decoded

abbrev pub decoded_of : Result (ℕ × ℕ) Refusal → Decoded
decoded_of (Ok (w, u)) = Word w u
decoded_of (Err x) = RefusedWith (number_of x)

-- ---- installing

-- what installing answers, and the record that it yields
pub record Installed : Type 0 where
  pub machine : Machine
  pub answer : Answer

-- after a refusal the record is a refused one
abbrev pub installed_of : Result Machine Reject → Installed
installed_of (Ok m) = record { machine = m; answer = answer taken_number 0 }
installed_of (Err e) = record { machine = machine_refused; answer = rejected e }
