-- What the two checks for forward routines answer, as a C host's numbers.
use Prim.Native.Nat.{ℕ, ◌^◌, ◌<◌}
use mathlib.Core.Path.{◌≡◌, ◌∙◌, ap}
use mathlib.Core.List.{List}
use lib.Dec.{lit<}
use Rattle.types.specs.declared.Layout.{Layout}
use Rattle.types.specs.declared.Answer.{Answer}
use Rattle.capi_spec.specs.Numbers.{layout_from, answer_to}
use Rattle.capi_values.proofs.answers.Places.{narrow}
use Rattle.forward_spec.specs.Forward.{forward_answer, check_forward_answer}
use Rattle.forward_spec.proofs.Places.{forward_bound, check_forward_bound}

-- their places have 32 bits
pub narrow_forward : (ws : List ℕ) (a : Answer) → a ≡ forward_answer ws → a.place < 2 ^ 32
narrow_forward ws a e = narrow a (forward_answer ws) e (forward_bound ws) (lit< tt)

pub narrow_check_forward : (l : Layout) (ws : List ℕ) (a : Answer) → a ≡ check_forward_answer l ws → a.place < 2 ^ 32
narrow_check_forward l ws a e = narrow a (check_forward_answer l ws) e (check_forward_bound l ws) (lit< tt)

-- the answer of the check of words
pub forward_is : (ws ns : List ℕ) (a : Answer) → a ≡ forward_answer ws → ns ≡ answer_to a → ns ≡ answer_to (forward_answer ws)
forward_is ws ns a p r = r ∙ ap answer_to p

-- the answer of the check of commands, with the layout from a host's numbers
module _ (xs : List ℕ) (l : Layout) (e : l ≡ layout_from xs) where
  pub checked_forward : (ws ns : List ℕ) (a : Answer) → a ≡ check_forward_answer l ws → ns ≡ answer_to a → ns ≡ answer_to (check_forward_answer (layout_from xs) ws)
  checked_forward ws ns a p r = r ∙ ap answer_to (p ∙ ap (λ (k : Layout). check_forward_answer k ws) e)
