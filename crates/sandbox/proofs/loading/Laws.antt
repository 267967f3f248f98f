-- Laws of loading, one for each return.
use Prim.Native.Nat.{ℕ, ◌≤◌}
use mathlib.Core.Path.{◌≡◌, refl, sym, ap, ◌∙◌}
use mathlib.Core.List.{List}
use native.Mathlib.Omega.{arith}
use lib.ListN.{length, take}
use lib.Seq.{sets, length-sets}
use borrow.Author.Tests.{eq-eqb, ne_eqb}
use Rattle.types.specs.declared.Layout.{Layout}
use Rattle.types.specs.declared.Machine.{Machine}
use Rattle.types.specs.declared.Answer.{Answer}
use Rattle.types.specs.declared.Reject.{Reject}
use Rattle.types.specs.Results.{Installed, rejected}
use Rattle.std.proofs.Common.{Result, Ok, Err}
use Rattle.std.specs.Prelude.{IsErrAnd}
use Rattle.sandbox_spec.specs.declared.LoadedRoutine.{LoadedRoutine}
use Rattle.types.specs.Names.{most_instructions, answer, or_else, output_of}
use Rattle.spec.specs.Policies.{Policy}
use Rattle.spec.specs.Bytes.{words_in, read_answer}
use Rattle.spec.specs.Bundles.{commands_of, command_count, rewrite_answer, check_answer}
use Rattle.spec.specs.Machines.{install_answer, install_memory, install_of}
use Rattle.types.specs.Records.{machine_refused}
use Rattle.spec.proofs.Refusals.{else_next, else_kept, else_none, output_written, output_start}
use Rattle.spec.proofs.Counts.{length_commands, rewrite_taken, rewrite_bound}
use Rattle.sandbox_spec.specs.Loading.{translate_answer, load_answer, load_commands, load_memory, load_machine, load_of, loaded_of}

-- what a load answers that ends at a call's refusal
pub exit : (r : Result LoadedRoutine Reject) (e : Reject) → IsErrAnd r (λ x. x ≡ e) → loaded_of r ≡ record { machine = machine_refused; answer = rejected e }
exit (Ok x) e h = absurd h
exit (Err x) e h = ap (λ (y : Reject). loaded_of (Err y)) h

module _ (lay : Layout) (pol : Policy) (s out mem : List ℕ) where
  abbrev code : List ℕ
  code = words_in s

  abbrev loads : Answer
  loads = load_answer lay pol s (length out) mem

  -- a load that is taken has the answer of translating
  loads_are : (a : Answer) → a ≡ translate_answer lay s (length out) → loads ≡ or_else a (or_else (install_answer lay pol mem) a)
  unfolding load_answer
  loads_are a e = rw (← e)

  module _ (a : Answer) (e : a ≡ translate_answer lay s (length out)) where
    -- what is promised about record, commands and memory
    abbrev Loaded : Installed → List ℕ → List ℕ → Type 0
    Loaded i out' mem' =
        (i ≡ load_of lay pol s (length out) mem) × ((out' ≡ load_commands lay pol s out mem)
        × ((mem' ≡ load_memory lay pol s (length out) mem) × (i.answer.number ≡ 0 → i.answer.place ≤ length out')))

    pub not_translated : (a.number ≡ 0 → ⊥) → (m : Machine) → m ≡ machine_refused → Loaded (record { machine = m; answer = a }) out mem
    unfolding load_commands load_memory load_machine
    not_translated h m em =
        let same : loads ≡ a = loads_are a e ∙ else_kept a _ h in
        rw (same, em, ne_eqb _ _ h) (refl, (refl, (refl, λ z. absurd (h z))))

    module _ (z : a.number ≡ 0) where
      pub taken : (translate_answer lay s (length out)).number ≡ 0
      taken = rw e at z

      module _ (b : Answer) (eb : b ≡ install_answer lay pol mem) where
        pub not_installed : (b.number ≡ 0 → ⊥) → (m : Machine) → m ≡ machine_refused → Loaded (record { machine = m; answer = b }) out mem
        unfolding load_commands load_memory load_machine
        not_installed h m em =
            let same : loads ≡ b = loads_are a e ∙ else_next a _ z ∙ rw (← eb) (else_kept b a h) in
            rw (same, em, ne_eqb _ _ h) (refl, (refl, (refl, λ y. absurd (h y))))

        rewritten : (rewrite_answer lay code (length out)).number ≡ 0
        unfolding translate_answer
        rewritten = (else_none (rewrite_answer lay code (length out)) _ (else_none (read_answer s most_instructions) _ taken).1).0

        -- the checker passes these commands
        unchecked : (check_answer lay (commands_of lay code)).number ≡ 0
        unfolding translate_answer
        unchecked = (else_none (check_answer lay (commands_of lay code)) _ (else_none (rewrite_answer lay code (length out)) _ (else_none (read_answer s most_instructions) _ taken).1).1).0

        counted : a ≡ answer 0 (command_count (length code))
        unfolding translate_answer
        counted =
            let r = else_none (read_answer s most_instructions) _ taken in
            e ∙ else_next (read_answer s most_instructions) _ r.0 ∙ else_next (rewrite_answer lay code (length out)) _ rewritten ∙ else_next _ _ unchecked

        length_is : length (commands_of lay code) ≡ a.place
        length_is = length_commands lay code ∙ ap (λ (x : Answer). x.place) (sym counted)

        fits : a.place ≤ length out
        fits = omega (arith, ap (λ (x : Answer). x.place) counted, (rewrite_bound lay code (length out)).taken rewritten, ap (λ (x : Answer). x.place) (rewrite_taken lay code (length out) rewritten))

        module _ (out' : List ℕ) (eo : out' ≡ sets out 0 (commands_of lay code)) where
          pub within : a.place ≤ length out'
          within = omega (arith, fits, ap length eo, length-sets out 0 (commands_of lay code))

          out_is : out' ≡ output_of a (commands_of lay code) out
          out_is = eo ∙ output_written a (commands_of lay code) out z (omega (arith, length_is, fits))

          pub passes : (c : Answer) → c ≡ check_answer lay (take a.place out') → c.number ≡ 0
          passes c ec =
              let written : take a.place out' ≡ commands_of lay code = rw out_is (output_start a (commands_of lay code) out z a.place length_is) in
              let same : c ≡ check_answer lay (commands_of lay code) = ec ∙ rw written in
              ap (λ (x : Answer). x.number) same ∙ unchecked

          pub loaded : b.number ≡ 0 → (i : Installed) → i ≡ install_of lay pol mem → (mem' : List ℕ) → mem' ≡ install_memory lay pol mem → Loaded (record { machine = i.machine; answer = a }) out' mem'
          unfolding load_commands load_memory load_machine
          loaded y i ei mem' em =
              let same : loads ≡ a = loads_are a e ∙ else_next a _ z ∙ rw (← eb) (else_next b a y) in
              rw (same, eq-eqb _ _ z)
              (ap (λ (x : Installed). record { machine = x.machine; answer = a }) ei, (out_is ∙ rw (eq-eqb _ _ z), (em, λ _. within)))
