-- Laws of checking.
use mathlib.Core.Path.{◌≡◌, sym, ◌∙◌}
use mathlib.Core.Bool.{Bool, true, false, not}
use mathlib.Core.List.{List, []}
use Prim.Native.Nat.{ℕ, zero, suc, ◌+◌, ◌-◌, ◌*◌, ◌/◌, ◌%◌, ◌^◌, ◌≤◌, ◌<◌}
use native.Mathlib.Omega.{arith}
use lib.Count.{ones, ones-le}
use lib.Dec.{ltb}
use lib.ListN.{length, get_or}
use borrow.Author.Tests.{leb-true, eqb-true, not-true, not-false}
use Rattle.types.specs.declared.Layout.{Layout}
use Rattle.types.specs.declared.Answer.{Answer}
use Rattle.types.specs.declared.Reject.{Reject}
use Rattle.types.specs.declared.Refusal.TheVariants.{BadBase, BadBundle, BadCount, BadLayout}
use Rattle.types.specs.Names.{taken_number, most_bundles, most_commands, bundle_length, base_bound, answer}
use Rattle.types.specs.Results.{reject_at, rejected}
use Rattle.std.specs.Simd.{first_chunks}
use Rattle.words.proofs.Chunks.{chunk_element}
use Rattle.checker.specs.Fours.{on_four}
use Rattle.checker.specs.shapes.FourWords.{passes_of}
use Rattle.spec.specs.Layouts.{right_layout}
use Rattle.spec.specs.Bundles.{address_of, bundle_at, shaped_at, passes_at, check_from, base_right, count_right, check_answer}
use Rattle.spec.proofs.Bools.{both}
use Rattle.spec.proofs.Masks.{base_room as list-room}

-- ---- a bundle of the list

module _ (l : Layout) (n : ℕ) (ws : List ℕ) (h : ℕ) where
  -- the four words of chunk h are those of bundle h
  passing_at : n ≡ length ws / bundle_length → h < n → (bs : List (List ℕ)) → bs ≡ first_chunks bundle_length (length ws / bundle_length) ws → on_four (λ w x y z. passes_of l n w x y z (ltb (h + 1) n)) (get_or bs h []) ≡ passes_at l n ws h
  unfolding passes_at shaped_at bundle_at
  passing_at en lt bs eb =
      let z : bundle_length * h + 0 ≡ bundle_length * h = omega arith in
      rw (
        eb,
        ← en,
        chunk_element bundle_length n ws h 0 [] 0 lt (omega arith),
        chunk_element bundle_length n ws h 1 [] 0 lt (omega arith),
        chunk_element bundle_length n ws h 2 [] 0 lt (omega arith),
        chunk_element bundle_length n ws h 3 [] 0 lt (omega arith),
        z,
      )

  -- ---- the bundles in order

  -- no bundle before h is refused, so what follows is the answer
  abbrev pub Reaches : Type 0
  Reaches = check_from l n ws 0 n ≡ check_from l n ws h (n - h)

  module _ (q : Reaches) where
    module _ (en : n ≡ length ws / bundle_length) (lt : h < n) (bs : List (List ℕ)) (eb : bs ≡ first_chunks bundle_length (length ws / bundle_length) ws) (p : Bool) (ep : p ≡ on_four (λ w x y z. passes_of l n w x y z (ltb (h + 1) n)) (get_or bs h [])) where
      left : n - h ≡ suc (n - (h + 1))
      left = omega arith

      passes : p ≡ passes_at l n ws h
      passes = ep ∙ passing_at en lt bs eb

      pub check_more : p ≡ true → check_from l n ws 0 n ≡ check_from l n ws (h + 1) (n - (h + 1))
      unfolding check_from
      check_more e = q ∙ rw (left, ← passes, e)

      pub check_stop : p ≡ false → (e : Reject) → e ≡ reject_at BadBundle h → rejected e ≡ check_from l n ws 0 n
      unfolding check_from
      check_stop e r er = rw er (sym (q ∙ rw (left, ← passes, e)))

    pub check_done : n ≤ h → answer taken_number 0 ≡ check_from l n ws 0 n
    unfolding check_from
    check_done g = let none : n - h ≡ 0 = omega arith in sym (q ∙ rw none)

-- ---- the whole

module _ (l : Layout) (ws : List ℕ) (t : Bool) (et : t ≡ right_layout l) where
  pub bad_layout : not t ≡ true → (e : Reject) → e ≡ reject_at BadLayout 0 → rejected e ≡ check_answer l ws
  unfolding check_answer
  bad_layout f e ee = rw (ee, ← et, not-true t f)

  module _ (e : not t ≡ false) (c : Bool) (ec : c ≡ count_right (length ws)) where
    pub bad_count : not c ≡ true → (r : Reject) → r ≡ reject_at BadCount 0 → rejected r ≡ check_answer l ws
    unfolding check_answer
    bad_count f r er = rw (er, ← et, not-false t e, ← ec, not-true c f)

    -- a right count means 1 to 1,024 bundles
    module _ (f : not c ≡ false) where
      count_facts : (length ws ≤ most_commands) × (length ws % bundle_length ≡ 0) × (ones (length ws / bundle_length) ≡ 1)
      count_facts =
          let h = both _ _ (sym ec ∙ not-false c f) in
          let g = both _ _ h.0 in
          (leb-true _ _ g.0, eqb-true _ _ g.1, eqb-true _ _ h.1)

      count_most : length ws / bundle_length ≤ most_bundles
      count_most = omega (arith, count_facts.0)

      pub count_some : 0 < length ws / bundle_length
      count_some = go (length ws / bundle_length) count_facts.2
        where
          go : (k : ℕ) → ones k ≡ 1 → 0 < k
          go zero e = absurd (omega (arith, ones-le 0 0 (omega arith)))
          go (suc k) e = omega arith

      module _ (b : Bool) (eb : b ≡ base_right l (length ws / bundle_length)) where
        pub bad_base : not b ≡ true → (r : Reject) → r ≡ reject_at BadBase 0 → rejected r ≡ check_answer l ws
        unfolding check_answer
        bad_base g r er = rw (er, ← et, not-false t e, ← ec, not-false c f, ← eb, not-true b g)

        -- a right base means that the list ends at or before 2 ^ 32
        pub base_room : l.base < base_bound → not b ≡ false → address_of l (length ws / bundle_length) ≤ 2 ^ 32
        base_room h g = list-room l.base (length ws / bundle_length) count_facts.2 count_most (eqb-true _ _ (sym eb ∙ not-false b g)) h

        pub checked : not b ≡ false → (a : Answer) → a ≡ check_from l (length ws / bundle_length) ws 0 (length ws / bundle_length) → a ≡ check_answer l ws
        unfolding check_answer
        checked g a ea = ea ∙ rw (← et, not-false t e, ← ec, not-false c f, ← eb, not-false b g)
