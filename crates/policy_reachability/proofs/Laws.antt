-- Laws of the work list's functions, one for each return.
use Rattle.std.proofs.Common.{ℕ, ◌+◌, ◌≤◌, ◌≡◌, refl, sym, ap, Bool, true, false, cond, Option, Some, None, MatchOption, List, length, set, eqb, arith}
use Rattle.std.specs.List.{position, position_or_len}
use Rattle.std.proofs.lemmas.List.Recursion.{is_position_or_len}
use Rattle.std.proofs.Math.Seq.{length-take-le}
use borrow.Author.Tests.{ne_eqb, ltb-false}
use Rattle.types.specs.Names.{no_arrow}
use Rattle.policy_spec.specs.reachability.Reach.{index_of, known}
use Rattle.policy_spec.specs.reachability.Worklists.{Worklist, nodes_of, insert_target}
use Rattle.policy_spec.proofs.reachability.Places.{place_le}

place_is : (ns : List ℕ) (x : ℕ) → position_or_len (λ y. eqb y x) ns ≡ index_of ns x
place_is ns x = sym (is_position_or_len (λ l. index_of l x) (λ y. eqb y x) refl (λ y ys. ap (cond (eqb y x) 0) (omega arith)) ns)

-- what a search for a node answers
abbrev pub Place : List ℕ → ℕ → Option ℕ → Type 0
Place ns x o = MatchOption o (known ns x ≡ false) (λ p. (p ≡ index_of ns x) × (known ns x ≡ true))

pub placed : (ns : List ℕ) (x : ℕ) (o : Option ℕ) → o ≡ position (λ y. eqb y x) ns → Place ns x o
placed ns x o e = rw (e, place_is ns x) (go (known ns x) refl)
  where
    go : (b : Bool) → known ns x ≡ b → Place ns x (cond b (Some (index_of ns x)) None)
    go true k = (refl, k)
    go false k = k

-- the work list with an arrow's target stored
abbrev pub numbered : Worklist → ℕ → ℕ → Worklist
numbered f k p = record { nodes = f.nodes; count = f.count; arrows = set f.arrows k p }

pub step_none : (f : Worklist) (k x : ℕ) → x ≡ 0 → numbered f k no_arrow ≡ insert_target f k x
unfolding insert_target
step_none f k x e = rw e

module _ (f : Worklist) (k x : ℕ) (z : x ≡ 0 → ⊥) where
  pub step_known : (p : ℕ) → Place (nodes_of f) x (Some p) → numbered f k p ≡ insert_target f k x
  unfolding insert_target
  step_known p e = rw (ne_eqb x 0 z, e.1, e.0)

  -- a new node's number is the count
  pub step_new : f.count ≤ length f.nodes → Place (nodes_of f) x None → record { nodes = set f.nodes f.count x; count = f.count + 1; arrows = set f.arrows k f.count } ≡ insert_target f k x
  unfolding insert_target
  step_new h e =
      let n : index_of (nodes_of f) x ≡ f.count = omega (arith, place_le (nodes_of f) x, length-take-le f.count f.nodes h, ltb-false (index_of (nodes_of f) x) (length (nodes_of f)) e) in
      rw (ne_eqb x 0 z, e, n)
