-- Laws of the loop that reads and of what it makes of a routine, in the form that the functions' proofs cite.
use mathlib.Core.Path.{◌≡◌, refl, ◌∙◌}
use mathlib.Core.Bool.{Bool, true, false, cond}
use mathlib.Core.List.{List, []}
use Prim.Native.Nat.{ℕ, suc, ◌+◌, ◌-◌, ◌≤◌, ◌<◌}
use native.Mathlib.Omega.{arith}
use native.Mathlib.Nat.{le_of_eq}
use native.Mathlib.Numerals.{add-one}
use lib.ListN.{length, take, drop, set, length-drop}
use lib.Seq.{sets as stores, take_all}
use borrow.Author.Tests.{eq-eqb, ne_eqb}
use Rattle.std.proofs.Common.{Option, Some, None}
use Rattle.std.specs.Prelude.{unwrap_or, IfSome}
use Rattle.std.specs.Option.{option_or}
use Rattle.std.specs.Bool.{then_some}
use Rattle.types.specs.declared.Answer.{Answer}
use Rattle.types.specs.declared.Refusal.TheVariants.{Trailing}
use Rattle.types.specs.Results.{Word, RefusedWith}
use Rattle.types.specs.Names.{taken_number, most_instructions, answer, refusal}
use Rattle.spec.specs.Bytes.{decode_one, scan_of, words_of, count_of, words_in, read_answer, read_output}
use Rattle.spec.specs.Words.{bad_landing}
use Rattle.spec.proofs.Refusals.{output_kept, output_written}
use Rattle.spec.proofs.Bytes.{one_read, read_scan, ReadOk, read_ok}
use Rattle.codec_read.specs.Scans.{first_past}

-- ---- the loop

-- the rest of a slice
pub rest : (u : ℕ) (t : List ℕ) → u ≤ length t → take (length t - u) (drop u t) ≡ drop u t
rest u t h = take_all (length t - u) (drop u t) (le_of_eq (length-drop u t))

pub used : (t : List ℕ) (w u : ℕ) → Word w u ≡ decode_one t → u ≤ length t
used t w u e = (one_read t w u e).fits

module _ (n i : ℕ) (t : List ℕ) (h : i < n) where
  left : n - i ≡ suc (n - (i + 1))
  left = omega arith

  -- an instruction is read
  module _ (w u : ℕ) (e : Word w u ≡ decode_one t) where
    pub scan_more : scan_of (n - i) i t ≡ scan_of (n - (i + 1)) (i + 1) (take (length t - u) (drop u t))
    unfolding scan_of
    scan_more = rw (rest u t (used t w u e), left, ← e)

    pub fill_more : (out : List ℕ) → stores out i (words_of (n - i) t) ≡ stores (set out i w) (i + 1) (words_of (n - (i + 1)) (take (length t - u) (drop u t)))
    unfolding words_of
    fill_more out = rw (rest u t (used t w u e), left, ← e, add-one)

    pub past_more : (past : Option ℕ) → unwrap_or past (first_past n (words_of (n - i) t) i)
        ≡ unwrap_or (option_or past (then_some (bad_landing n w) i)) (first_past n (words_of (n - (i + 1)) (take (length t - u) (drop u t))) (i + 1))
    unfolding words_of first_past
    past_more past = rw (rest u t (used t w u e), left, ← e) (go past (bad_landing n w) _)
      where
        go : (past : Option ℕ) (b : Bool) (y : ℕ) → unwrap_or past (cond b i y) ≡ unwrap_or (option_or past (then_some b i)) y
        go None true y = refl
        go None false y = refl
        go (Some j) b y = refl

  pub within_more : (past : Option ℕ) (b : Bool) → IfSome past (λ j. j < n) → IfSome (option_or past (then_some b i)) (λ j. j < n)
  within_more None true p = h
  within_more None false p = tt
  within_more (Some j) b p = p

  -- an instruction is refused
  module _ (x : ℕ) (e : RefusedWith x ≡ decode_one t) where
    pub scan_stop : scan_of (n - i) i t ≡ answer x i
    unfolding scan_of
    scan_stop = rw (left, ← e)

    pub words_stop : words_of (n - i) t ≡ []
    unfolding words_of
    words_stop = rw (left, ← e)

module _ (n i : ℕ) (t : List ℕ) (h : n ≤ i) where
  none_left : n - i ≡ 0
  none_left = omega arith

  pub scan_done : length t ≡ 0 → scan_of (n - i) i t ≡ answer taken_number i
  unfolding scan_of
  scan_done l = rw (none_left, eq-eqb _ _ l)

  pub scan_over : (length t ≡ 0 → ⊥) → scan_of (n - i) i t ≡ refusal Trailing 0
  unfolding scan_of
  scan_over l = rw (none_left, ne_eqb _ _ l)

  pub words_done : words_of (n - i) t ≡ []
  unfolding words_of
  words_done = rw none_left

pub ruleset scanning = (used, scan_more, fill_more, past_more, within_more, scan_stop, words_stop, scan_done, scan_over, words_done)

-- ---- the whole

pub read_rest : (s : List ℕ) (room : ℕ) → 2 ≤ length s → (n : ℕ) → n ≡ count_of s → n ≤ most_instructions → n ≤ room
    → (a : Answer) → a ≡ scan_of n 0 (take (length s - 2) (drop 2 s)) → a ≡ read_answer s room
read_rest s room h n e g l a ea = read_scan s room h n e g l a (ea ∙ rw (rest 2 s h))

module _ (s out : List ℕ) (a : Answer) (e : a ≡ read_answer s (length out)) where
  pub refused : (a.number ≡ 0 → ⊥) → out ≡ read_output s out
  unfolding read_output
  refused z = rw (← e) (output_kept a (words_in s) out z)

  module _ (z : a.number ≡ 0) where
    ok : ReadOk s (length out) a.place
    ok = rw e (read_ok s (length out) (rw e at z))

    pub ok_two : 2 ≤ length s
    ok_two = ok.two

    pub filled : (o : List ℕ) → o ≡ stores out 0 (words_of a.place (take (length s - 2) (drop 2 s))) → o ≡ read_output s out
    unfolding read_output
    filled o eo =
        let h : length (words_in s) ≤ length out = omega (arith, ok.words, ok.fits) in
        eo ∙ rw (rest 2 s ok.two, ok.count, ← e) (output_written a (words_in s) out z h)
