-- Laws of writing, one for each return.
use Rattle.std.proofs.Common.{ℕ, suc, ◌+◌, ◌*◌, ◌<◌, ◌≤◌, ◌≡◌, refl, sym, ◌∙◌, List, ◌++◌, length, get_or, take, drop, set, arith}
use lib.ListN.{length-set}
use lib.Seq.{drop-cons, take-suc, take_all, set_at, append_snoc, length-take-le}
use borrow.Author.Tests.{lt-ltb, le-ltb, le-leb, lt-leb}
use Rattle.types.specs.declared.Refusal.TheVariants.{SmallOutput, TooManyStates}
use Rattle.types.specs.Names.{most_states, events, answer, refusal}
use Rattle.policy_spec.specs.reachability.Reach.{Made, made_with}
use Rattle.policy_spec.specs.reachability.Worklists.{Worklist, worklist_answer, written_of, written_table}

-- the first i elements of s are copied over the start of t₀
pub record Copied (s t₀ : List ℕ) (i : ℕ) (t : List ℕ) : Type 0 where
  pub table : t ≡ take i s ++ drop i t₀
  pub within : i ≤ length s
  pub kept : length t ≡ length t₀

module _ (s t₀ : List ℕ) where
  pub copy_none : Copied s t₀ 0 t₀
  copy_none = record { table = refl; within = omega arith; kept = refl }

  module _ (i : ℕ) (t : List ℕ) (copied : Copied s t₀ i t) where
    pub copy_more : i < length s → length s ≤ length t₀ → (r : ℕ) → r ≡ get_or s i 0 → Copied s t₀ (i + 1) (set t i r)
    copy_more h k r e = record { table = more; within = omega arith; kept = length-set t i r ∙ copied.kept }
      where
        more : set t i r ≡ take (i + 1) s ++ drop (i + 1) t₀
        more =
            let n : i + 1 ≡ suc i = omega arith in
            rw (n, copied.table, e, drop-cons t₀ i 0 (omega arith), take-suc s i 0 h)
            (set_at (take i s) (get_or t₀ i 0) (drop (suc i) t₀) (get_or s i 0) i (length-take-le i s (omega arith)) ∙ sym (append_snoc (take i s) (get_or s i 0) (drop (suc i) t₀)))

    pub copy_done : length s ≤ i → t ≡ s ++ drop (length s) t₀
    copy_done h = let n : i ≡ length s = omega (arith, copied.within) in rw (copied.table, n, take_all (length s) s (omega arith))

module _ (f : Worklist) (t : List ℕ) where
  -- what is answered and written
  abbrev pub Writes : Made → List ℕ → Type 0
  Writes made t' = record { made : made ≡ written_of f (length t); table : t' ≡ written_table f t }

  pub too_many : most_states < f.count → Writes (made_with (refusal TooManyStates 0) 0) t
  unfolding written_of written_table worklist_answer
  too_many h = rw (lt-leb f.count most_states h) (record { made = refl; table = refl })

  module _ (h : f.count ≤ most_states) where
    pub no_room : length t < events * f.count → Writes (made_with (refusal SmallOutput 0) 0) t
    unfolding written_of written_table worklist_answer
    no_room l = rw (le-leb f.count most_states h, lt-ltb (length t) (events * f.count) l) (record { made = refl; table = refl })

    pub writes : events * f.count ≤ length t → length f.arrows ≡ events * most_states
        → Writes (made_with (answer 0 (events * f.count)) f.count) (take (events * f.count) f.arrows ++ drop (events * f.count) t)
    unfolding written_of written_table worklist_answer
    writes l q =
        let n : length (take (events * f.count) f.arrows) ≡ events * f.count = length-take-le (events * f.count) f.arrows (omega (arith, q)) in
        rw (le-leb f.count most_states h, le-ltb (length t) (events * f.count) l, n) (record { made = refl; table = refl })
