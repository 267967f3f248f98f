-- An arrow, or none, and the entry that stands for it.
use Rattle.std.proofs.Common.{ℕ, ◌≡◌, refl, sym, ◌∙◌, Bool, true, false, cond, eqb, Option, Some, None}
use Rattle.std.specs.Option.{is_none, unwrap_or}
use borrow.Author.Tests.{eqb-true, eqb-false, ne_eqb}
use Rattle.types.specs.Names.{no_arrow}
use Rattle.policy_spec.specs.tables.Arrows.{arrow_from}

pub no_arrow_is_none : (a : ℕ) → is_none (arrow_from a) ≡ eqb a no_arrow
no_arrow_is_none a = go (eqb a no_arrow)
  where
    go : (b : Bool) → is_none (cond b None (Some a)) ≡ b
    go true = refl
    go false = refl

pub arrow_or : (a s : ℕ) → unwrap_or (arrow_from a) s ≡ cond (eqb a no_arrow) s a
arrow_or a s = go (eqb a no_arrow)
  where
    go : (b : Bool) → unwrap_or (cond b None (Some a)) s ≡ cond b s a
    go true = refl
    go false = refl

-- the entry for an arrow, or for none
pub entry_is : (a r : ℕ) (o : Option ℕ) → o ≡ arrow_from a → r ≡ unwrap_or o no_arrow → r ≡ a
entry_is a r o e f = rw (f, e) (go (eqb a no_arrow) refl)
  where
    go : (b : Bool) → eqb a no_arrow ≡ b → unwrap_or (cond b None (Some a)) no_arrow ≡ a
    go true g = sym (eqb-true a no_arrow g)
    go false g = refl

pub arrow_some : (a : ℕ) → (a ≡ no_arrow → ⊥) → arrow_from a ≡ Some a
arrow_some a z = rw (ne_eqb a no_arrow z)

pub none_is : (a : ℕ) → None ≡ arrow_from a → a ≡ no_arrow
none_is a e = go (eqb a no_arrow) refl e
  where
    go : (b : Bool) → eqb a no_arrow ≡ b → None ≡ cond b None (Some a) → a ≡ no_arrow
    go true g f = eqb-true a no_arrow g
    go false g f = cc

pub some_is : (a t : ℕ) → Some t ≡ arrow_from a → (t ≡ a) × (t ≡ no_arrow → ⊥)
some_is a t e = go (eqb a no_arrow) refl e
  where
    go : (b : Bool) → eqb a no_arrow ≡ b → Some t ≡ cond b None (Some a) → (t ≡ a) × (t ≡ no_arrow → ⊥)
    go true g f = cc
    go false g f = let k : t ≡ a = cc in (k, λ z. eqb-false a no_arrow g (sym k ∙ z))
