-- What rewriting and checking answer and leave, as a C host's numbers.
use Prim.Native.Nat.{ℕ}
use mathlib.Core.Path.{◌≡◌, ◌∙◌, ap}
use mathlib.Core.List.{List}
use lib.ListN.{length}
use Rattle.types.specs.declared.Layout.{Layout}
use Rattle.types.specs.declared.Answer.{Answer}
use Rattle.spec.specs.Bundles.{rewrite_answer, rewrite_output, check_answer}
use Rattle.capi_spec.specs.Numbers.{layout_from, answer_to}
use Rattle.capi_spec.specs.Hosts.{check_for}

-- a part's answer and output, with the layout from a host's numbers
module _ (xs : List ℕ) (l : Layout) (e : l ≡ layout_from xs) where
  pub rewritten : (ws out left ns : List ℕ) (a : Answer) → a ≡ rewrite_answer l ws (length out) → left ≡ rewrite_output l ws out → ns ≡ answer_to a
      → (ns ≡ answer_to (rewrite_answer (layout_from xs) ws (length out))) × (left ≡ rewrite_output (layout_from xs) ws out)
  rewritten ws out left ns a p q r =
      (r ∙ ap answer_to (p ∙ ap (λ (k : Layout). rewrite_answer k ws (length out)) e), q ∙ ap (λ (k : Layout). rewrite_output k ws out) e)

  pub checked : (ws ns : List ℕ) (a : Answer) → a ≡ check_answer l ws → ns ≡ answer_to a → ns ≡ check_for xs ws
  unfolding check_for
  checked ws ns a p r = r ∙ ap answer_to (p ∙ ap (λ (k : Layout). check_answer k ws) e)
