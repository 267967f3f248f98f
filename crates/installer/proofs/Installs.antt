-- What installing answers and leaves.
use Prim.Native.Nat.{ℕ, ◌+◌, ◌≤◌}
use mathlib.Core.Path.{◌≡◌, sym, ap, ◌∙◌}
use mathlib.Core.Bool.{Bool, true, false}
use mathlib.Core.List.{List, []}
use native.Mathlib.Omega.{arith}
use lib.Dec.{eqb, leb}
use lib.ListN.{length, set}
use lib.Seq.{sets}
use borrow.Author.Tests.{eq-eqb, ne_eqb, eqb-true, le-leb}
use Rattle.types.specs.declared.Layout.{Layout}
use Rattle.types.specs.declared.Answer.{Answer}
use Rattle.std.specs.Prelude.{Result, Ok, Err, IsErrAnd}
use Rattle.types.specs.declared.Reject.{Reject}
use Rattle.types.specs.Results.{reject_at, rejected, installed_of}
use Rattle.types.proofs.Exits.{refusal_counts}
use Rattle.types.specs.declared.Machine.{Machine}
use Rattle.types.specs.declared.Refusal.TheVariants.{BadLayout, BadPolicy, BadLandings}
use Rattle.types.specs.Names.{taken_number, most_states, answer}
use Rattle.spec.specs.Layouts.{right_layout}
use Rattle.spec.specs.Policies.{Policy, policy_of, states_right, right_policy}
use Rattle.spec.specs.Landings.{right_landings, landings_of}
use Rattle.spec.specs.Machines.{fits, install_answer, install_machine, install_memory, install_of}
use Rattle.installer.specs.table.Tables.{table_right}
use Rattle.types.specs.Records.{machine_at}
use Rattle.spec.proofs.Bools.{both, join, unless-ind}
use Rattle.spec.proofs.Layouts.{LayoutFacts, layout_facts}
use Rattle.spec.proofs.Landings.{length_landings}
use Rattle.spec.proofs.Conditions.{fits_of, policy_facts}

-- a policy with the layout's states is right under the layout exactly if it is right by itself
module _ (l : Layout) (s q : ℕ) (t : List ℕ) where
  pub own_states : right_layout l ≡ true → s ≡ l.states → (r : Bool) → r ≡ table_right (policy_of s q t []) → r ≡ right_policy l (policy_of s q t [])
  unfolding right_policy table_right
  own_states h e r f =
      let fact = layout_facts l h in
      let known : states_right s ≡ true = join (leb 1 s) (leb s most_states) (le-leb 1 s (omega (arith, fact.some_states))) (le-leb s most_states (omega (arith, fact.states))) in
      rw (eq-eqb s l.states e) (rw known at f)

  pub other_states : (s ≡ l.states → ⊥) → false ≡ right_policy l (policy_of s q t [])
  unfolding right_policy
  other_states z = rw (ne_eqb s l.states z)

-- the layout, the policy and the memory that it is written to
module _ (l : Layout) (s q : ℕ) (t ls mem : List ℕ) where
  abbrev pol : Policy
  pol = policy_of s q t ls

  -- the answer: bad layout (7), bad policy (10), bad landing list (14), or taken (0)
  module _ (b : Bool) (e : b ≡ fits l mem) where
    pub layout_is : b ≡ true → right_layout l ≡ true
    layout_is h = (both (right_layout l) (eqb (length mem) l.size) (sym e ∙ h)).0

    pub no_layout : b ≡ false → (x : Reject) → x ≡ reject_at BadLayout 0 → rejected x ≡ install_answer l pol mem
    unfolding install_answer
    no_layout h x ex = rw (ex, ← e, h)

    -- the policy's test does not look at landings
    module _ (h : b ≡ true) (r : Bool) (g : r ≡ right_policy l (policy_of s q t [])) where
      right_is : r ≡ right_policy l pol
      unfolding right_policy
      right_is = g

      pub no_policy : r ≡ false → (x : Reject) → x ≡ reject_at BadPolicy 0 → rejected x ≡ install_answer l pol mem
      unfolding install_answer
      no_policy f x ex = rw (ex, ← e, h, ← right_is, f)

      module _ (f : r ≡ true) (x : Bool) (u : x ≡ right_landings ls) where
        pub no_landings : x ≡ false → (y : Reject) → y ≡ reject_at BadLandings 0 → rejected y ≡ install_answer l pol mem
        unfolding install_answer
        no_landings v y ey = rw (ey, ← e, h, ← right_is, f, ← u, v)

        pub all_right : x ≡ true → answer taken_number 0 ≡ install_answer l pol mem
        unfolding install_answer
        all_right v = rw (← e, h, ← right_is, f, ← u, v)

  -- the record and the memory after a refusal
  module _ (x : Reject) (e : rejected x ≡ install_answer l pol mem) where
    pub refused_record : (r : Result Machine Reject) → IsErrAnd r (λ y. y ≡ x) → installed_of r ≡ install_of l pol mem
    unfolding install_machine
    refused_record (Ok m) h = absurd h
    refused_record (Err y) h = rw (h, ← e, ne_eqb _ _ (refusal_counts x.refusal))

    pub refused_memory : mem ≡ install_memory l pol mem
    unfolding install_memory
    refused_memory = rw (← e, ne_eqb _ _ (refusal_counts x.refusal))

  -- and after installing
  module _ (taken : answer taken_number 0 ≡ install_answer l pol mem) where
    zero_is : (install_answer l pol mem).number ≡ 0
    zero_is = rw (← taken)

    facts : LayoutFacts l
    facts = layout_facts l (both (right_layout l) _ (fits_of l pol mem zero_is).0).0

    size_is : length mem ≡ l.size
    size_is = eqb-true (length mem) l.size (both (right_layout l) _ (fits_of l pol mem zero_is).0).1

    pub landings_are : right_landings ls ≡ true
    unfolding install_answer
    landings_are =
        let P : Answer → Type 0 = λ a. a.number ≡ 0 → right_landings ls ≡ true in
        unless-ind P (fits l mem) (λ _ y. absurd (omega arith))
        (λ _. unless-ind P (right_policy l pol) (λ _ y. absurd (omega arith))
        (λ _. unless-ind P (right_landings ls) (λ _ y. absurd (omega arith)) (λ t _. t))) zero_is

    pub landings_fit : (mem₁ mem₂ : List ℕ) → length mem₁ ≡ length mem → length mem₂ ≡ length mem₁ → (cells : List ℕ) → cells ≡ landings_of ls → l.landings + length cells ≤ length mem₂
    landings_fit mem₁ mem₂ k m cells n = omega (arith, facts.landings, size_is, ap length n ∙ length_landings ls)

    pub table_fits : (mem₁ : List ℕ) → length mem₁ ≡ length mem → l.table + length t ≤ length mem₁
    table_fits mem₁ k =
        let p = policy_facts l pol (fits_of l pol mem zero_is).1 in
        omega (arith, facts.table, size_is, p.states, p.size)

    pub record_made : (m : Machine) → m ≡ machine_at l.base → installed_of (Ok m) ≡ install_of l pol mem
    unfolding install_machine
    record_made m em = rw (em, ← taken)

    pub laid : (cells : List ℕ) → cells ≡ landings_of ls → (mem₁ : List ℕ) → mem₁ ≡ set mem l.cell q → (mem₂ : List ℕ) → mem₂ ≡ sets mem₁ l.table t
        → (mem₃ : List ℕ) → mem₃ ≡ sets mem₂ l.landings cells → mem₃ ≡ install_memory l pol mem
    unfolding install_memory
    laid cells ec mem₁ e₁ mem₂ e₂ mem₃ e₃ = rw (e₃, e₂, e₁, ec, ← taken)
