-- Layouts, records and answers as the arrays of numbers that a C host sees.
use Rattle.std.specs.Prelude.{ℕ, zero, suc, ◌+◌, Bool, cond, List, [], ◌∷◌, ◌++◌, get_or, take, eqb, ltb}
use Rattle.types.specs.declared.Layout.{Layout}
use Rattle.types.specs.declared.Machine.{Machine}
use Rattle.types.specs.declared.Answer.{Answer}
use Rattle.types.specs.declared.RunAnswer.{RunAnswer}
use Rattle.types.specs.declared.Status.{Status}
use Rattle.types.specs.declared.Status.TheVariants.{Running, Ended, Stopped, Faulted, Strayed}
use Rattle.types.specs.Names.{orders, registers, ending_number, first}
pub use Rattle.types.specs.Names.{status_number}
use Rattle.types.specs.Records.{layout_of, machine_of}

-- n numbers from index i on
abbrev pub numbers_from : ℕ → ℕ → List ℕ → List ℕ
numbers_from zero i xs = []
numbers_from (suc n) i xs = get_or xs i 0 ∷ numbers_from n (suc i) xs

-- a layout from U, SL, SH, M, P, S, B, Q and the ceilings of orders 0 to 7
unfoldable pub layout_from : List ℕ → Layout
layout_from xs =
    layout_of (get_or xs 0 0) (get_or xs 1 0) (get_or xs 2 0) (get_or xs 3 0) (get_or xs 4 0) (get_or xs 5 0) (get_or xs 6 0) (get_or xs 7 0)
    (numbers_from orders 8 xs)

-- how many statuses there are
abbrev pub statuses : ℕ
statuses = status_number Strayed + 1

-- the status of a number; an invalid one counts as faulted
abbrev pub status_from : ℕ → Status
status_from x =
    first
    ((eqb x (status_number Running), Running) ∷ (eqb x (status_number Ended), Ended) ∷ (eqb x (status_number Stopped), Stopped)
    ∷ (eqb x (status_number Strayed), Strayed) ∷ []) Faulted

-- a machine's or engine's record: its registers, then two numbers, pc or index and the status
abbrev pub trailer : ℕ
trailer = 2

abbrev pub record_to : List ℕ → ℕ → Status → List ℕ
record_to regs at t = regs ++ (at ∷ status_number t ∷ [])

-- the status number of a record with n registers, and the record that `make` builds from its numbers
abbrev pub status_in : ℕ → List ℕ → ℕ
status_in n xs = get_or xs (n + 1) 0

abbrev pub record_from : {R : Type 0} → (List ℕ → ℕ → Status → R) → ℕ → List ℕ → R
record_from make n xs = make (take n xs) (get_or xs n 0) (status_from (status_in n xs))

-- whether its status number is valid
abbrev pub status_known : ℕ → List ℕ → Bool
status_known n xs = ltb (status_in n xs) statuses

-- its numbers after a run that leaves `left`; if its status number is invalid, they stay as they were
abbrev pub numbers_after : ℕ → List ℕ → List ℕ → List ℕ
numbers_after n xs left = cond (status_known n xs) left xs

-- the machine's record
abbrev pub machine_from : List ℕ → Machine
machine_from xs = record_from machine_of registers xs

abbrev pub machine_to : Machine → List ℕ
machine_to m = record_to m.regs m.pc m.status

-- an answer as number and place; a run's answer as ending, steps, pairs and readings
abbrev pub answer_to : Answer → List ℕ
answer_to a = a.number ∷ a.place ∷ []

abbrev pub run_answer_to : RunAnswer → List ℕ
run_answer_to a = ending_number a.ending ∷ a.steps ∷ a.pairs ∷ a.used ∷ []

-- a made policy as its answer, its state count and one more number
abbrev pub made_to : Answer → ℕ → ℕ → List ℕ
made_to a states more = a.number ∷ a.place ∷ states ∷ more ∷ []
