-- What a function that ends at a `?` answers: the error of the call, at no place where the error is a refusal alone.
use Rattle.std.proofs.Common.{◌≡◌, ℕ, Result, Ok, Err, ap, arith}
use Rattle.std.specs.Prelude.{IsErrAnd}
use Rattle.types.specs.declared.Refusal.{Refusal}
use Rattle.types.specs.declared.Refusal.TheVariants.{Short, Foreign, UnknownKind, OffRange, Oversize, Trailing, BadLayout, BadLanding, SmallOutput, BadPolicy, BadBundle, BadCount, BadBase, BadLandings, TooManyStates, BadDrawing, BadPair, NotForward}
use Rattle.types.specs.declared.Reject.{Reject}
use Rattle.types.specs.Names.{number_of}
use Rattle.types.specs.Results.{rejected, answer_with, refusal_number}

pub exit_rejected : {A : Type 0} (place : A → ℕ) (r : Result A Reject) (e : Reject) → IsErrAnd r (λ x. x ≡ e) → answer_with place r ≡ rejected e
exit_rejected place (Ok x) e h = absurd h
exit_rejected place (Err x) e h = ap rejected h

pub exit_refused : (r : Result Unit Refusal) (x : Refusal) → IsErrAnd r (λ y. y ≡ x) → refusal_number r ≡ number_of x
exit_refused (Ok _) x h = absurd h
exit_refused (Err y) x h = ap number_of h

-- no refusal has the number of a success
pub refusal_counts : (x : Refusal) → number_of x ≡ 0 → ⊥
refusal_counts Short h = omega (arith, h)
refusal_counts Foreign h = omega (arith, h)
refusal_counts UnknownKind h = omega (arith, h)
refusal_counts OffRange h = omega (arith, h)
refusal_counts Oversize h = omega (arith, h)
refusal_counts Trailing h = omega (arith, h)
refusal_counts BadLayout h = omega (arith, h)
refusal_counts BadLanding h = omega (arith, h)
refusal_counts SmallOutput h = omega (arith, h)
refusal_counts BadPolicy h = omega (arith, h)
refusal_counts BadBundle h = omega (arith, h)
refusal_counts BadCount h = omega (arith, h)
refusal_counts BadBase h = omega (arith, h)
refusal_counts BadLandings h = omega (arith, h)
refusal_counts TooManyStates h = omega (arith, h)
refusal_counts BadDrawing h = omega (arith, h)
refusal_counts BadPair h = omega (arith, h)
refusal_counts NotForward h = omega (arith, h)
