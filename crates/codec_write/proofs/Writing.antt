-- Laws of measuring and writing a routine, in the form that the functions' proofs cite.
use mathlib.Core.Path.{◌≡◌, refl, sym, ◌∙◌}
use mathlib.Core.List.{List, [], ◌∷◌, ◌++◌}
use Prim.Native.Nat.{ℕ, ◌+◌, ◌/◌, ◌%◌, ◌≤◌, ◌<◌}
use native.Mathlib.Omega.{arith}
use lib.ListN.{length, get_or, drop}
use lib.Seq.{sets as stores}
use Rattle.std.specs.Int.{w16, to_le_bytes}
use Rattle.types.specs.declared.Answer.{Answer}
use Rattle.types.specs.declared.Refusal.{Refusal}
use Rattle.types.specs.Names.{most_instructions, number_of, refusal}
use Rattle.types.proofs.Exits.{refusal_counts}
use Rattle.spec.specs.Words.{word_refusal, first_refused}
use Rattle.spec.specs.Bytes.{encode_one, bytes_of, routine_of, write_answer, write_output}
use Rattle.spec.proofs.Bytes.{length_routine, WriteOk, write_ok}
use Rattle.spec.proofs.Refusals.{refused_more, refused_stop, refused_done, output_kept, output_written}
use Rattle.codec_write.proofs.Storing.{each_length, each_more, each_done}

-- ---- the words in order
bytes_nil : bytes_of [] ≡ []
unfolding bytes_of
bytes_nil = refl

bytes_cons : (w : ℕ) (ws : List ℕ) → bytes_of (w ∷ ws) ≡ encode_one w ++ bytes_of ws
unfolding bytes_of
bytes_cons w ws = refl

module _ (ws : List ℕ) (i : ℕ) where
  module _ (h : i < length ws) where
    pub bytes_length : length (bytes_of (drop i ws)) ≡ length (encode_one (get_or ws i 0)) + length (bytes_of (drop (i + 1) ws))
    bytes_length = each_length encode_one bytes_of bytes_nil bytes_cons ws i h

    pub bytes_more : (out : List ℕ) (to : ℕ) → stores out to (bytes_of (drop i ws))
        ≡ stores (stores out to (encode_one (get_or ws i 0))) (to + length (encode_one (get_or ws i 0))) (bytes_of (drop (i + 1) ws))
    bytes_more = each_more encode_one bytes_of bytes_nil bytes_cons ws i h

  pub bytes_done : length ws ≤ i → bytes_of (drop i ws) ≡ []
  bytes_done = each_done encode_one bytes_of bytes_nil bytes_cons ws i

  -- of the words themselves: the next one is no refusal, or it is one, or there is no other
  pub clean_more : i < length ws → (z : Answer) → 0 ≡ word_refusal (get_or ws i 0)
      → first_refused word_refusal (drop i ws) i z ≡ first_refused word_refusal (drop (i + 1) ws) (i + 1) z
  clean_more h z e = refused_more word_refusal ws i z _ refl h 0 _ e refl refl

  pub clean_stop : i < length ws → (z : Answer) (x : Refusal) → number_of x ≡ word_refusal (get_or ws i 0) → first_refused word_refusal (drop i ws) i z ≡ refusal x i
  clean_stop h z x e = sym (refused_stop word_refusal ws i z _ refl h (number_of x) _ e refl (refusal_counts x))

  pub clean_done : length ws ≤ i → (z : Answer) → first_refused word_refusal (drop i ws) i z ≡ z
  clean_done h z = sym (refused_done word_refusal ws i z _ refl h)

pub ruleset emitting = (bytes_length, bytes_more, bytes_done)

pub ruleset measuring = (bytes_length, bytes_done, clean_more, clean_stop, clean_done, length_routine)

-- ---- the whole
pub put_routine : (ws : List ℕ) → length ws ≤ most_instructions → (bs : List ℕ) → bs ≡ to_le_bytes w16 (length ws)
    → (o o₁ o₂ : List ℕ) → o₁ ≡ stores o 0 bs → o₂ ≡ stores o₁ 2 (bytes_of ws) → o₂ ≡ stores o 0 (routine_of ws)
unfolding routine_of
put_routine ws h bs eb o o₁ o₂ e₁ e₂ =
    let high : length ws / 256 % 256 ≡ length ws / 256 = omega arith in
    e₂ ∙ rw (e₁, eb, high)

module _ (ws out : List ℕ) (a : Answer) (e : a ≡ write_answer ws (length out)) where
  pub kept : (a.number ≡ 0 → ⊥) → out ≡ write_output ws out
  unfolding write_output
  kept z = rw (← e) (output_kept a (routine_of ws) out z)

  module _ (z : a.number ≡ 0) where
    ok : WriteOk ws (length out) a.place
    ok = rw e (write_ok ws (length out) (rw e at z))

    pub ok_few : length ws ≤ most_instructions
    ok_few = ok.few

    pub ok_room : 2 + length (bytes_of ws) ≤ length out
    ok_room = omega (arith, ok.fits, length_routine ws)

    pub written : (o : List ℕ) → o ≡ stores out 0 (routine_of ws) → o ≡ write_output ws out
    unfolding write_output
    written o eo = eo ∙ rw (← e) (output_written a (routine_of ws) out z ok.fits)
