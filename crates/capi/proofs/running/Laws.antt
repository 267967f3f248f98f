-- What runs and previews answer and leave, said of the numbers of a C host.
use Prim.Native.Nat.{ℕ, ◌+◌, ◌^◌, ◌<◌, ◌≤◌}
use mathlib.Core.Path.{◌≡◌, refl, sym, ◌∙◌, ap, subst}
use mathlib.Core.Bool.{Bool, true, false, cond, ◌&&◌}
use mathlib.Core.List.{List}
use lib.Dec.{eqb}
use lib.ListN.{length}
use lib.Seq.{sets}
use native.Mathlib.Omega.{arith}
use borrow.Author.Tests.{eqb-true}
use Rattle.types.specs.declared.Layout.{Layout}
use Rattle.types.specs.declared.Machine.{Machine}
use Rattle.types.specs.declared.Outcome.{Outcome}
use Rattle.types.specs.declared.Ending.TheVariants.{Refused}
use Rattle.types.specs.Names.{registers}
use Rattle.types.specs.Records.{outcome_of}
use Rattle.spec.specs.Layouts.{right_layout}
use Rattle.spec.specs.Machines.{fits, RunResult, run_result_of, run_of, preview_of}
use Rattle.capi_spec.specs.Numbers.{trailer, layout_from, machine_from, machine_to, numbers_after, run_answer_to}
use Rattle.capi_spec.specs.Hosts.{HostResult, host_result, host_after, result_to, run_for, host_previewed, preview_for}
use Rattle.spec.proofs.Counts.{RunCounts, run_counts}
use Rattle.spec.proofs.Bools.{both}
use Rattle.buffers.proofs.stores.Storing.{store_all}
use Rattle.capi_spec.proofs.Calls.{machine_round_trips}

-- pairs and readings have 32 bits
pub counts : (l : Layout) (ws mem rd log mem' log' : List ℕ) (budget : ℕ) (m : Machine) (o : Outcome) → run_result_of o mem' log' ≡ run_of l ws m mem budget rd log → budget < 2 ^ 32
    → (o.answer.pairs < 2 ^ 32) × (o.answer.used < 2 ^ 32)
counts l ws mem rd log mem' log' budget m o q h =
    let b = subst (RunCounts log rd budget) (sym q) (run_counts l ws m mem budget rd log) in
    (omega (arith, b.pairs), omega (arith, b.used))

-- of the layout and the record of a host's numbers
module _ (xs ms ws mem rd log log' : List ℕ) (budget : ℕ) (l : Layout) (m : Machine) (o : Outcome) (e : l ≡ layout_from xs) (p : m ≡ machine_from ms) where
  pub left : (mem' ms' ns : List ℕ) → run_result_of o mem' log' ≡ run_of l ws m mem budget rd log
      → ms' ≡ numbers_after registers ms (machine_to o.machine) → ns ≡ run_answer_to o.answer
      → host_result ns ms' mem' log' ≡ run_for xs ws ms mem budget rd log
  unfolding run_for
  left mem' ms' ns q t u = rw (t, u, ← e, ← p) (ap (λ (r : RunResult). host_after registers ms (result_to r)) q)

-- ---- a preview

-- a memory that fits is copied into a work of U cells
module _ (lay : Layout) (mem work : List ℕ) (f : Bool) (e : f ≡ fits lay mem) where
  same_size : (f && eqb (length work) lay.size) ≡ true → length work ≡ length mem
  same_size t =
      let p = both f _ t in
      eqb-true _ _ p.1 ∙ sym (eqb-true _ _ (both (right_layout lay) _ (sym e ∙ p.0)).1)

  pub fits_copy : (f && eqb (length work) lay.size) ≡ true → 0 + length mem ≤ length work
  fits_copy t = omega (arith, same_size t)

  pub judged : (f && eqb (length work) lay.size) ≡ (fits lay mem && eqb (length work) lay.size)
  judged = rw e

  pub copies : (f && eqb (length work) lay.size) ≡ true → (left : List ℕ) → left ≡ sets work 0 mem → left ≡ cond (f && eqb (length work) lay.size) mem work
  copies t left c = rw t (c ∙ store_all work mem (same_size t))

  pub leaves : (f && eqb (length work) lay.size) ≡ false → work ≡ cond (f && eqb (length work) lay.size) mem work
  leaves t = rw t

-- a record's numbers, copied
record_copied : (xs after copy : List ℕ) → copy ≡ sets after 0 xs → length after ≡ registers + trailer → length xs ≡ registers + trailer → copy ≡ xs
record_copied xs after copy e l n = e ∙ store_all after xs (l ∙ sym n)

-- in a host's numbers: a run on the copies, or the record's copy with a refused run's answer
module _ (xs ms ws mem work rd log left after copy : List ℕ) (budget : ℕ) (l : Layout) (e : l ≡ layout_from xs) (b : Bool)
    (q : b ≡ (fits l mem && eqb (length work) l.size)) (c : left ≡ cond b mem work) (d : copy ≡ sets after 0 ms)
    (n : length after ≡ registers + trailer) (k : length ms ≡ registers + trailer) where
  pub previewed : b ≡ true → (ns ms' work' log' : List ℕ) → host_result ns ms' work' log' ≡ run_for xs ws copy left budget rd log
      → host_previewed (host_result ns ms' work' log') ms mem ≡ preview_for xs ws ms mem work budget rd log
  unfolding preview_for preview_of run_for
  previewed t ns ms' work' log' r = ap (λ (x : HostResult). host_previewed x ms mem) r ∙ rw (record_copied ms after copy d n k, c, ← e, ← q, t)

  pub preview_refused : b ≡ false → (ns : List ℕ) → ns ≡ run_answer_to (outcome_of (machine_from ms) Refused 0 0 0).answer
      → host_previewed (host_result ns copy left log) ms mem ≡ preview_for xs ws ms mem work budget rd log
  unfolding preview_for preview_of
  preview_refused t ns u = rw (u, record_copied ms after copy d n k, c, ← e, ← q, t, machine_round_trips.untouched ms _ k refl)
