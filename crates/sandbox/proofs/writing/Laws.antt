-- Laws of writing a routine's bundles from its bytes.
use Prim.Native.Nat.{ℕ, ◌-◌, ◌≤◌, ◌<◌, ◌^◌}
use mathlib.Core.Path.{◌≡◌, refl, sym, ◌∙◌}
use mathlib.Core.List.{List}
use native.Mathlib.Omega.{arith}
use lib.ListN.{length, take, drop}
use lib.Seq.{sets}
use Rattle.types.specs.declared.Layout.{Layout}
use Rattle.types.specs.Names.{most_instructions}
use Rattle.spec.specs.Words.{routine, bundles_for}
use Rattle.spec.specs.Bytes.{words_of, count_of, words_in, read_answer}
use Rattle.spec.specs.Bundles.{bundles_from, commands_of, rewrite_answer}
use Rattle.spec.proofs.Refusals.{else_none}
use Rattle.spec.proofs.Bytes.{ReadOk, read_ok}
use Rattle.codec_read.proofs.Reading.{rest}
use Rattle.rewriter.specs.Rewriting.{BundlesFit}
use Rattle.rewriter.proofs.Written.{list_long, list_ready, list_written}
use Rattle.sandbox_spec.specs.Loading.{translate_answer}

module _ (lay : Layout) (s out : List ℕ) (z : (translate_answer lay s (length out)).number ≡ 0) where
  parts : ((read_answer s most_instructions).number ≡ 0) × ((rewrite_answer lay (words_in s) (length out)).number ≡ 0)
  unfolding translate_answer
  parts = let r = else_none (read_answer s most_instructions) _ z in (r.0, (else_none (rewrite_answer lay (words_in s) (length out)) _ r.1).0)

  ok : ReadOk s most_instructions (read_answer s most_instructions).place
  ok = read_ok s most_instructions parts.0

  pub read_two : 2 ≤ length s
  read_two = ok.two

  module _ (k : ℕ) (ek : k ≡ count_of s) where
    pub read_few : k < 2 ^ 32
    read_few = omega (arith, ok.few)

    count_is : k ≡ length (words_in s)
    count_is = ek ∙ sym (ok.words ∙ ok.count)

    -- the words are at the start of the list
    module _ (out₁ : List ℕ) (e₁ : out₁ ≡ sets out 0 (words_of k (take (length s - 2) (drop 2 s)))) where
      words_out : out₁ ≡ sets out 0 (words_in s)
      words_out = e₁ ∙ rw (rest 2 s ok.two, ek)

      pub all_long : k ≤ length out₁
      all_long = list_long lay (words_in s) out _ refl parts.1 k count_is out₁ words_out

      module _ (n : ℕ) (en : n ≡ bundles_for k) where
        pub all_ready : BundlesFit lay n (take k out₁) (length out₁)
        all_ready = list_ready lay (words_in s) out _ refl parts.1 k count_is out₁ words_out n en

        pub all_written : (out' : List ℕ) → out' ≡ sets out₁ 0 (bundles_from lay n (routine (take k out₁)) 0 n) → out' ≡ sets out 0 (commands_of lay (words_in s))
        all_written out' e = list_written lay (words_in s) out _ refl parts.1 k count_is out₁ words_out n en out' e
