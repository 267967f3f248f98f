-- Laws of the answer for a routine's bytes, one for each return.
use Prim.Native.Nat.{ℕ, zero, suc, ◌+◌, ◌-◌, ◌≤◌, ◌<◌}
use mathlib.Core.Path.{◌≡◌, refl, sym, ◌∙◌}
use mathlib.Core.Bool.{Bool, true, false, cond}
use mathlib.Core.Logic.{⊎_elim}
use mathlib.Core.List.{List, [], ◌∷◌}
use native.Mathlib.Omega.{arith}
use lib.ListN.{length, take, drop}
use lib.Dec.{eqb, ltb}
use borrow.Author.Tests.{eqb-true, eqb-false, lt-ltb, le-ltb}
use Rattle.types.specs.declared.Layout.{Layout}
use Rattle.types.specs.declared.Answer.{Answer}
use Rattle.types.specs.Results.{Decoded}
use Rattle.types.specs.Results.{Word, RefusedWith}
use Rattle.types.specs.declared.Refusal.TheVariants.{Short, Oversize, BadLayout, BadLanding}
use Rattle.types.specs.Names.{most_instructions, answer, refusal, or_else}
use Rattle.spec.specs.Layouts.{right_layout}
use Rattle.spec.specs.Words.{bad_landing, word_refusal, refusal_at, first_refused}
use Rattle.spec.specs.Bytes.{decode_one, then_words, words_of, count_of, words_in, scan_of, read_answer}
use Rattle.spec.specs.Bundles.{commands_of, command_count, base_room_answer, rewrite_answer, check_answer}
use Rattle.spec.proofs.Bools.{cases}
use Rattle.spec.proofs.Refusals.{TakesEach, else_next, else_kept}
use Rattle.spec.proofs.Bytes.{read_short, read_many, read_ok}
use Rattle.spec.proofs.Counts.{rewrite_taken}
use Rattle.spec.proofs.Passing.{rewritten_passes}
use Rattle.spec.proofs.RoundTrip.{one_clean}
use Rattle.codec_read.proofs.Reading.{rest, read_rest}
use Rattle.sandbox_spec.specs.Loading.{translate_answer}
use Rattle.codec_read.specs.Scans.{first_past}
use Rattle.sandbox.specs.answers.Answers.{landings_answer}

-- ---- rewriting's answer

module _ (lay : Layout) (n past room : ℕ) (b : Bool) (e : b ≡ right_layout lay) where
  pub bad_layout : b ≡ false → refusal BadLayout 0 ≡ landings_answer lay n past room
  unfolding landings_answer
  bad_layout h = rw (← e, h)

  module _ (h : b ≡ true) where
    pub bad_landing_lem : past < n → refusal BadLanding past ≡ landings_answer lay n past room
    unfolding landings_answer
    bad_landing_lem l = rw (← e, h, lt-ltb past n l)

    pub based : n ≤ past → (a : Answer) → a ≡ base_room_answer lay n room → a ≡ landings_answer lay n past room
    unfolding landings_answer
    based l a ea = ea ∙ rw (← e, h, le-ltb past n l)

-- words that are instructions can only be refused as bad landing (8)
first_refused_lem : (n : ℕ) (ws : List ℕ) (i : ℕ) → TakesEach word_refusal ws → i + length ws ≤ n → (z : Answer)
    → first_refused (refusal_at n) ws i z ≡ cond (ltb (first_past n ws i) n) (refusal BadLanding (first_past n ws i)) z
unfolding first_refused first_past refusal_at
first_refused_lem n [] i all h z = rw (le-ltb n n (omega arith))
first_refused_lem n (w ∷ ws) i all h z = go (bad_landing n w) refl (λ l. first_refused_lem n ws (i + 1) (λ j l. all (suc j) (omega arith)) l z)
  where
    go : (b : Bool) → bad_landing n w ≡ b
        → (i + 1 + length ws ≤ n → first_refused (refusal_at n) ws (i + 1) z ≡ cond (ltb (first_past n ws (i + 1)) n) (refusal BadLanding (first_past n ws (i + 1))) z)
        → first_refused (refusal_at n) (w ∷ ws) i z ≡ cond (ltb (first_past n (w ∷ ws) i) n) (refusal BadLanding (first_past n (w ∷ ws) i)) z
    go true e ih = rw (all 0 (omega arith), e, lt-ltb i n (omega arith))
    go false e ih = rw (all 0 (omega arith), e) (ih (omega arith))

-- words that were read are instructions
read_clean : (n : ℕ) (s : List ℕ) → TakesEach word_refusal (words_of n s)
unfolding words_of
read_clean zero s = λ j h. absurd (omega arith)
read_clean (suc n) s = go (decode_one s) refl (λ u. read_clean n (drop u s))
  where
    go : (o : Decoded) → o ≡ decode_one s → ((u : ℕ) → TakesEach word_refusal (words_of n (drop u s))) → TakesEach word_refusal (then_words o (λ u. words_of n (drop u s)))
    go (Word w u) eo ih = elim [ zero ↦ λ h. one_clean s w u eo | suc j ↦ λ h. ih u j (omega arith) ]
    go (RefusedWith x) eo ih = λ j h. absurd (omega arith)

-- the checker passes what the rewriter writes
nothing_checked : (lay : Layout) (ws : List ℕ) (room : ℕ) → rewrite_answer lay ws room
    ≡ or_else (rewrite_answer lay ws room) (or_else (check_answer lay (commands_of lay ws)) (answer 0 (command_count (length ws))))
nothing_checked lay ws room =
    let W = rewrite_answer lay ws room in
    ⊎_elim
    (λ t. let z = eqb-true W.number 0 t in rewrite_taken lay ws room z ∙ sym (else_next W _ z ∙ rw (rewritten_passes lay ws room z)))
    (λ t. sym (else_kept W _ (eqb-false W.number 0 t)))
    (cases (eqb W.number 0))

-- ---- the whole

module _ (lay : Layout) (s : List ℕ) (room : ℕ) where
  not_read : (a : Answer) → a ≡ read_answer s most_instructions → (a.number ≡ 0 → ⊥) → a ≡ translate_answer lay s room
  unfolding translate_answer
  not_read a e h = rw (← e) (sym (else_kept a _ h))

  pub too_short : length s < 2 → refusal Short 0 ≡ translate_answer lay s room
  too_short h = not_read (refusal Short 0) (read_short s most_instructions h) (λ z. absurd (omega arith))

  module _ (h : 2 ≤ length s) (n : ℕ) (en : n ≡ count_of s) where
    pub too_many : most_instructions < n → refusal Oversize 0 ≡ translate_answer lay s room
    too_many g = not_read (refusal Oversize 0) (read_many s most_instructions h n en g) (λ z. absurd (omega arith))

    module _ (g : n ≤ most_instructions) (a : Answer) (ea : a ≡ scan_of n 0 (take (length s - 2) (drop 2 s))) where
      read_is : a ≡ read_answer s most_instructions
      read_is = read_rest s most_instructions h n en g g a ea

      pub refused_read : (a.number ≡ 0 → ⊥) → a ≡ translate_answer lay s room
      refused_read z = not_read a read_is z

      pub judged : a.number ≡ 0 → (past : ℕ) → past ≡ first_past n (words_of n (take (length s - 2) (drop 2 s))) 0 → (r : Answer) → r ≡ landings_answer lay n past room → r ≡ translate_answer lay s room
      unfolding translate_answer rewrite_answer landings_answer
      judged z past ep r er =
          let k = read_ok s most_instructions (rw read_is at z) in
          let l : length (words_in s) ≡ n = k.words ∙ k.count ∙ sym en in
          let p : past ≡ first_past n (words_in s) 0 = ep ∙ rw (rest 2 s h, en) in
          let W : r ≡ rewrite_answer lay (words_in s) room = er ∙ rw (p, l, le-ltb most_instructions n g, first_refused_lem n (words_in s) 0 (read_clean _ _) (omega (arith, l)) (base_room_answer lay n room)) in
          W ∙ nothing_checked lay (words_in s) room ∙ sym (else_next (read_answer s most_instructions) _ (rw read_is at z))
