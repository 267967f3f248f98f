-- A policy's numbers, and the bytes of its table, four at a time.
use Prim.Native.Nat.{ℕ, ◌+◌, ◌*◌, ◌/◌, ◌≤◌}
use mathlib.Core.Path.{◌≡◌, sym, ap, ap₂, ◌∙◌}
use mathlib.Core.Bool.{Bool, true, false, ◌&&◌}
use mathlib.Core.List.{List, []}
use native.Mathlib.Omega.{arith}
use lib.Dec.{eqb, leb, ltb}
use lib.ListN.{length, take, drop}
use lib.Seq.{take-add, take_all}
use borrow.Author.Tests.{leb-true, eqb-true}
use Rattle.types.specs.Names.{most_states, events}
use Rattle.spec.specs.Policies.{policy_of, states_right, entries_right}
use Rattle.installer.specs.table.Tables.{table_right}
use Rattle.installer.specs.table_words.Words.{low_bytes, word_bytes, word_right}
use Rattle.installer.proofs.table_words.Words.{word_entries}
use Rattle.spec.proofs.Bools.{both}
use Rattle.spec.proofs.Entries.{entries_append}

module _ (s : ℕ) (t : List ℕ) (ok : Bool) (i : ℕ) (e : ok ≡ entries_right s (take (word_bytes * i) t)) where
  pub word_more : (w : ℕ) (r : Bool) → 1 ≤ s → s ≤ most_states → low_bytes word_bytes w ≡ take word_bytes (drop (word_bytes * i) t) → r ≡ word_right s w
      → (ok && r) ≡ entries_right s (take (word_bytes * (i + 1)) t)
  word_more w r some most f g =
      let n : word_bytes * i + word_bytes ≡ word_bytes * (i + 1) = omega arith in
      ap₂ ◌&&◌ e (g ∙ word_entries s w some most ∙ ap (entries_right s) f)
      ∙ sym (entries_append s (take (word_bytes * i) t) (take word_bytes (drop (word_bytes * i) t)))
      ∙ ap (entries_right s) (sym (take-add (word_bytes * i) word_bytes t) ∙ ap (λ (k : ℕ). take k t) n)

  -- a table of 16 bytes a state is made of whole words
  pub words_done : length t ≡ events * s → length t / word_bytes ≤ i → i ≤ length t / word_bytes → ok ≡ entries_right s t
  words_done l h k =
      let n : word_bytes * i ≡ length t = omega arith in
      e ∙ ap (entries_right s) (ap (λ (k : ℕ). take k t) n ∙ take_all (length t) t (omega arith))

-- the numbers are tested before the entries
module _ (s q : ℕ) (t : List ℕ) (known : Bool) (e : known ≡ states_right s) where
  abbrev numbers : Bool
  numbers = known && eqb (length t) (events * s) && ltb q s

  -- without the test of the start
  pub entries_ready : (start : Bool) → (known && eqb (length t) (events * s) && start) ≡ true → (1 ≤ s) × (s ≤ most_states) × (length t ≡ events * s)
  entries_ready start h =
      let sized = both known (eqb (length t) (events * s)) (both (known && eqb (length t) (events * s)) start h).0 in
      let range = both (leb 1 s) (leb s most_states) (sym e ∙ sized.0) in
      (leb-true 1 s range.0, leb-true s most_states range.1, eqb-true (length t) (events * s) sized.1)

  pub entries_decide : numbers ≡ true → (r : Bool) → r ≡ entries_right s t → r ≡ table_right (policy_of s q t [])
  unfolding table_right
  entries_decide h r f = rw (← e, h, f)

  pub numbers_wrong : numbers ≡ false → false ≡ table_right (policy_of s q t [])
  unfolding table_right
  numbers_wrong h = rw (← e, h)
