-- Laws of lists of runs, for machine and engine alike.
use mathlib.Core.Path.{◌≡◌, refl, sym, ◌∙◌, ap}
use mathlib.Core.Bool.{false}
use mathlib.Core.List.{List, [], ◌∷◌, ◌++◌, append_assoc, append-nil}
use Prim.Native.Nat.{ℕ}
use native.Mathlib.Omega.{arith}
use lib.ListN.{length, get_or}
use Rattle.types.specs.declared.Layout.{Layout}
use Rattle.spec.specs.Layouts.{in_box}
use Rattle.spec.specs.Guests.{Pair}
use Rattle.spec.specs.Runs.{RunInput, pairs_of, Every, each_run, after_all, Run, recorded_in, MemoryPreserved, EachPreserved}
use Rattle.spec.specs.Claims.{with_budget, FrameCondition}
use Rattle.spec.proofs.Counts.{Tally}

pub every_append : {A : Type 0} (P : A → Type 0) (xs ys : List A) → Every P xs → Every P ys → Every P (xs ++ ys)
every_append P [] ys a b = b
every_append P (x ∷ xs) ys a b = (a.0, every_append P xs ys a.1 b)

-- a run that counts its pairs and readings, and keeps the frame condition
pub kept_by : {O : Type 0} (lay : Layout) (r : Run O) (n k : ℕ) → Tally r.input.log r.input.readings n k r.pairs r.used r.result.log
    → length r.result.mem ≡ length r.input.memory
    → ((i : ℕ) → in_box lay i ≡ false → (i ≡ lay.cell → ⊥) → get_or r.result.mem i 0 ≡ get_or r.input.memory i 0) → FrameCondition lay r
kept_by lay r n k t size cells =
    record { size = size; cells = cells; counted = omega (arith, t.room, t.log); drawn = t.drawn; log_size = t.log; log_rest = t.rest }

-- ---- the session after a list
module _ {C : Type 0} (on : C → RunInput → C) where
  pub after_more : (c : C) (gs : List RunInput) (g : RunInput) → after_all on c (gs ++ (g ∷ [])) ≡ on (after_all on c gs) g
  unfolding after_all
  after_more c [] g = refl
  after_more c (x ∷ gs) g = after_more (on c x) gs g

  -- each run is lent the memory that the last one left
  module _ (lay : Layout) (memory : C → List ℕ) where
    abbrev pub AllPreserved : C → List RunInput → Type 0
    AllPreserved c gs = EachPreserved lay (each_run (λ c g. (memory c, g)) on c gs)

    pub lends_more : (c : C) (gs : List RunInput) (g : RunInput) → AllPreserved c gs → MemoryPreserved lay (memory (after_all on c gs)) g → AllPreserved c (gs ++ (g ∷ []))
    unfolding each_run after_all
    lends_more c [] g l t = (t, tt)
    lends_more c (x ∷ gs) g l t = (l.0, lends_more (on c x) gs g l.1 t)

    -- the same for a list that is cut off, between two runs or within one
    pub lends_first : (c : C) (xs ys : List RunInput) → AllPreserved c (xs ++ ys) → AllPreserved c xs
    unfolding each_run
    lends_first c [] ys l = tt
    lends_first c (x ∷ xs) ys l = (l.0, lends_first (on c x) xs ys l.1)

    pub preserved_prefix : (c : C) (xs ys : List RunInput) (g : RunInput) (j : ℕ) → AllPreserved c (xs ++ (g ∷ ys)) → AllPreserved c (xs ++ (with_budget g j ∷ []))
    unfolding each_run
    preserved_prefix c [] ys g j l = (l.0, tt)
    preserved_prefix c (x ∷ xs) ys g j l = (l.0, preserved_prefix (on c x) xs ys g j l.1)

    -- what each run keeps, a list of runs keeps
    module _ (S : C → Type 0) (keeps : (c : C) (g : RunInput) → MemoryPreserved lay (memory c) g → S c → S (on c g)) where
      pub stays_all : (c : C) (gs : List RunInput) → AllPreserved c gs → S c → S (after_all on c gs)
      unfolding each_run after_all
      stays_all c [] l w = w
      stays_all c (g ∷ gs) l w = stays_all (on c g) gs l.1 (keeps c g l.0 w)

      pub lasts_all : {A : Type 0} (of : C → A) → ((c : C) (g : RunInput) → MemoryPreserved lay (memory c) g → S c → of (on c g) ≡ of c)
          → (c : C) (gs : List RunInput) → AllPreserved c gs → S c → of (after_all on c gs) ≡ of c
      unfolding each_run after_all
      lasts_all of each c [] l w = refl
      lasts_all of each c (g ∷ gs) l w = lasts_all of each (on c g) gs l.1 (keeps c g l.0 w) ∙ each c g l.0 w

      pub every_run : {R : Type 0} (run : C → RunInput → R) (P : R → Type 0) → ((c : C) (g : RunInput) → MemoryPreserved lay (memory c) g → S c → P (run c g))
          → (c : C) (gs : List RunInput) → AllPreserved c gs → S c → Every P (each_run run on c gs)
      unfolding each_run
      every_run run P each c [] l w = tt
      every_run run P each c (g ∷ gs) l w = (each c g l.0 w, every_run run P each (on c g) gs l.1 (keeps c g l.0 w))

-- ---- the pairs that the runs' answers count
module _ {C O : Type 0} (run : C → RunInput → Run O) (on : C → RunInput → C) where
  pub recorded_all : (records : C → List Pair) → ((c : C) (g : RunInput) → records (on c g) ≡ records c ++ pairs_of (run c g).result.log (run c g).pairs)
      → (c : C) (gs : List RunInput) → records (after_all on c gs) ≡ records c ++ recorded_in (each_run run on c gs)
  unfolding after_all each_run
  recorded_all records each c [] = sym (append-nil (records c))
  recorded_all records each c (g ∷ gs) =
      let rest = recorded_in (each_run run on (on c g) gs) in
      recorded_all records each (on c g) gs ∙ ap (λ (ps : List Pair). ps ++ rest) (each c g) ∙ append_assoc (records c) _ rest

  pub recorded_every : (P : Pair → Type 0) → ((c : C) (g : RunInput) → Every P (pairs_of (run c g).result.log (run c g).pairs))
      → (c : C) (gs : List RunInput) → Every P (recorded_in (each_run run on c gs))
  unfolding each_run
  recorded_every P each c [] = tt
  recorded_every P each c (g ∷ gs) = every_append P (pairs_of (run c g).result.log (run c g).pairs) (recorded_in (each_run run on (on c g) gs)) (each c g) (recorded_every P each (on c g) gs)
