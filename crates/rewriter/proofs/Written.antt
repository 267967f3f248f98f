-- Laws of a whole rewriting: what holds once a routine is taken, and what the output has.
use mathlib.Core.Path.{◌≡◌, refl, sym, ap, ◌∙◌, subst}
use mathlib.Core.Bool.{true}
use mathlib.Core.List.{List, ◌++◌}
use Prim.Native.Nat.{ℕ, ◌+◌, ◌-◌, ◌^◌, ◌≤◌, ◌<◌}
use native.Mathlib.Omega.{arith}
use lib.Dec.{ltb}
use lib.ListN.{length, take, drop}
use lib.Seq.{sets, length-sets, take_at, drop-drop, drop-append-add}
use borrow.Author.Tests.{lt-ltb, le-leb, ltb-false, eqb-true}
use Rattle.types.specs.declared.Layout.{Layout}
use Rattle.types.specs.declared.Instr.{Instr}
use Rattle.types.specs.declared.Instr.TheVariants.{HALT, PLAIN, LOAD, STORE, GOIF, GOX, EVENT}
use Rattle.types.specs.declared.Answer.{Answer}
use Rattle.types.specs.Names.{most_instructions}
use Rattle.spec.specs.Layouts.{right_layout}
use Rattle.spec.specs.Words.{refusal_at, routine, bundles_for}
use Rattle.spec.specs.Bundles.{bundles_from, base_right, command_count, commands_of, base_room_answer, rewrite_answer, rewrite_output, valid}
use Rattle.spec.proofs.Facts.{Valid}
use Rattle.spec.proofs.Bools.{cond_ind, unless-ind}
use Rattle.spec.proofs.Refusals.{taken_then, store_front, output_kept, output_written}
use Rattle.spec.proofs.Layouts.{layout_facts}
use Rattle.spec.proofs.Masks.{base_room}
use Rattle.spec.proofs.Conditions.{Taken, taken_of, size_laws, count_most, routine_valid, routine_length}
use Rattle.rewriter.specs.Rewriting.{BundlesFit}

-- an instruction's facts pass its test
valid_of : (n : ℕ) (i : Instr) → Valid n i → valid n i ≡ true
unfolding valid
valid_of n HALT g = refl
valid_of n (PLAIN k d a b v) g =
    simp (le-leb _ _ g.0, le-leb _ _ g.1, lt-ltb _ _ g.2, lt-ltb _ _ g.3, lt-ltb _ _ g.4, le-leb _ _ g.5, le-leb _ _ g.6, le-leb _ _ g.7, le-leb _ _ g.8)
valid_of n (LOAD d a) g = simp (lt-ltb _ _ g.0, lt-ltb _ _ g.1)
valid_of n (STORE a b) g = simp (lt-ltb _ _ g.0, lt-ltb _ _ g.1)
valid_of n (GOIF a b c v) g = simp (lt-ltb _ _ g.0, lt-ltb _ _ g.1, le-leb _ _ g.2, lt-ltb _ _ g.3)
valid_of n (GOX d a b c) g = simp (lt-ltb _ _ g.0, lt-ltb _ _ g.1, lt-ltb _ _ g.2, le-leb _ _ g.3)
valid_of n (EVENT x) g = lt-ltb _ _ g

module _ (l : Layout) (ws : List ℕ) (room : ℕ) where
  abbrev Roomy : Answer → Type 0
  Roomy a = a.number ≡ 0 → command_count (length ws) ≤ room

  roomy : Roomy (rewrite_answer l ws room)
  unfolding rewrite_answer base_room_answer
  roomy =
      unless-ind Roomy (right_layout l) (λ _ z. absurd (omega arith))
      (λ _. cond_ind Roomy (ltb most_instructions (length ws)) (λ _ z. absurd (omega arith))
      (λ _. taken_then (refusal_at (length ws)) (λ _. command_count (length ws) ≤ room) ws 0 (base_room_answer l (length ws) room)
      (unless-ind Roomy (base_right l (bundles_for (length ws))) (λ _ z. absurd (omega arith))
      (λ _. cond_ind Roomy (ltb room (command_count (length ws))) (λ _ z. absurd (omega arith)) (λ e _. ltb-false _ _ e)))))

  module _ (a : Answer) (ea : a ≡ rewrite_answer l ws room) (z : a.number ≡ 0) where
    zero_is : (rewrite_answer l ws room).number ≡ 0
    zero_is = subst (λ (x : Answer). x.number ≡ 0) ea z

    taken : Taken l ws
    taken = taken_of l ws room zero_is

    pub short : length ws < 2 ^ 32
    short = omega (arith, taken.most)

    pub ready : (k : ℕ) → k ≡ bundles_for (length ws) → BundlesFit l k ws room
    ready k ek =
        record {
          some = omega (arith, ek, (size_laws l ws taken).above);
          most = omega (arith, ek, count_most l ws taken);
          top = rw ek (base_room l.base (bundles_for (length ws)) (size_laws l ws taken).power (count_most l ws taken) (eqb-true _ _ taken.base) (layout_facts l taken.right).base);
          fit = omega (arith, ek, roomy zero_is);
          each = λ h. rw ek (valid_of (bundles_for (length ws)) (routine ws h) (routine_valid l ws taken h));
        }

-- ---- a list stored over a shorter one

over : (out xs ys : List ℕ) → length xs ≤ length ys → length ys ≤ length out → sets (sets out 0 xs) 0 ys ≡ sets out 0 ys
over out xs ys h g =
    let m : ℕ = length ys - length xs in
    let n : length ys ≡ length xs + m = omega arith in
    let one : sets out 0 xs ≡ xs ++ drop (length xs) out = store_front out xs (omega arith) in
    let less : drop (length ys) (sets out 0 xs) ≡ drop (length ys) out = rw (one, n, drop-append-add, drop-drop) in
    store_front (sets out 0 xs) ys (omega (arith, length-sets out 0 xs)) ∙ ap (λ (l : List ℕ). ys ++ l) less ∙ sym (store_front out ys g)

-- ---- a routine that is taken

module _ (l : Layout) (ws out : List ℕ) (a : Answer) (ea : a ≡ rewrite_answer l ws (length out)) where
  module _ (z : a.number ≡ 0) where
    size : length (commands_of l ws) ≤ length out
    size = omega (arith, routine_length l ws (taken l ws (length out) a ea z), roomy l ws (length out) (zero_is l ws (length out) a ea z))

    fewer : length ws ≤ length (commands_of l ws)
    fewer = let t = taken l ws (length out) a ea z in omega (arith, routine_length l ws t, (size_laws l ws t).above)

    pub words_fit : 0 + length ws ≤ length out
    words_fit = omega (arith, size, fewer)

    -- its words are at the start of the list
    module _ (k : ℕ) (ek : k ≡ length ws) (out₁ : List ℕ) (e₁ : out₁ ≡ sets out 0 ws) where
      same_length : length out₁ ≡ length out
      same_length = ap length e₁ ∙ length-sets out 0 ws

      words_at : take k out₁ ≡ ws
      words_at = rw (e₁, store_front out ws (omega (arith, words_fit))) (take_at ws _ k (sym ek))

      pub list_long : k ≤ length out₁
      list_long = omega (arith, same_length, words_fit)

      module _ (n : ℕ) (en : n ≡ bundles_for k) where
        pub list_ready : BundlesFit l n (take k out₁) (length out₁)
        list_ready = rw (words_at, same_length) (ready l ws (length out) a ea z n (en ∙ rw ek))

        pub list_written : (out' : List ℕ) → out' ≡ sets out₁ 0 (bundles_from l n (routine (take k out₁)) 0 n) → out' ≡ sets out 0 (commands_of l ws)
        list_written out' e =
            let here : out' ≡ sets (sets out 0 ws) 0 (commands_of l ws) = e ∙ rw (words_at, e₁, en, ek) in
            here ∙ over out ws (commands_of l ws) fewer size

        pub written : (out' : List ℕ) → out' ≡ sets out₁ 0 (bundles_from l n (routine (take k out₁)) 0 n) → out' ≡ rewrite_output l ws out
        unfolding rewrite_output
        written out' e = list_written out' e ∙ output_written (rewrite_answer l ws (length out)) (commands_of l ws) out (zero_is l ws (length out) a ea z) size

  pub refused : (a.number ≡ 0 → ⊥) → out ≡ rewrite_output l ws out
  unfolding rewrite_output
  refused z = rw (← ea) (output_kept a (commands_of l ws) out z)
