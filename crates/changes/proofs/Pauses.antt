-- The one effect that changes when probe silent (24) comes before log full (23).
use mathlib.Core.Path.{◌≡◌, refl}
use mathlib.Core.Bool.{Bool, true, false, cond}
use native.Mathlib.Omega.{arith}
use borrow.Author.Tests.{ltb-true, ltb-false, eqb-true, lt-ltb, le-ltb, eq-eqb}
use lib.Dec.{eqb, ltb}
use Rattle.types.specs.declared.Effect.TheVariants.{Order, Probe, Wait}
use Rattle.types.specs.declared.Ending.TheVariants.{LogFull, Silent}
use Rattle.types.specs.Names.{orders}
use Rattle.spec.specs.Machines.{effect_of}
use Rattle.changes.specs.Claims.{SilentFirst}

-- both orders of the two pauses agree, except for a reading event with no reading left and no free pair
same_tests : {A : Type 0} (order silent full : Bool) (x y w z : A) → (order ≡ false → silent ≡ true → full ≡ true → ⊥)
    → cond order (cond full w x) (cond silent z (cond full w y)) ≡ cond full w (cond order x (cond silent z y))
same_tests true silent true x y w z n = refl
same_tests true silent false x y w z n = refl
same_tests false true true x y w z n = absurd (n refl refl refl)
same_tests false true false x y w z n = refl
same_tests false false true x y w z n = refl
same_tests false false false x y w z n = refl

pub silent_first : SilentFirst
unfolding effect_of
silent_first v s =
    record {
      gave = λ p. rw (lt-ltb s.free 2 p.2);
      gives = λ p. rw (le-ltb v orders p.0, eq-eqb s.left 0 p.1);
      same =
          λ n.
          same_tests (ltb v orders) (eqb s.left 0) (ltb s.free 2) (Order v) (Probe v) (Wait LogFull) (Wait Silent)
          (λ e f g. n (ltb-false v orders e, eqb-true s.left 0 f, omega (arith, ltb-true s.free 2 g)));
    }
