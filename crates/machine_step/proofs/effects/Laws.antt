-- Laws of words and fetching.
use Rattle.std.proofs.Common.{◌≡◌, ℕ, ◌+◌, ◌-◌, ◌%◌, ◌^◌, ◌<◌, ◌≤◌, Bool, true, false, cond, ◌&&◌, eqb, ltb, leb, List, length, get_or, refl, arith, w32, Fits as Held, le-ltb, lt-ltb, le-leb, leb-true}
use Rattle.types.specs.declared.Command.TheVariants.{Invalid}
use Rattle.types.specs.Names.{registers, top_word, command}
use Rattle.spec.specs.Words.{kind_of, d_of, a_of, b_of, v_of}
use Rattle.spec.specs.Commands.{is_command, command_of, fetch_of}
use Rattle.spec.proofs.Bools.{cond_ind}
use Rattle.words.proofs.Laws.{named_in}
use Rattle.machine_step.specs.effects.CommandFields.{FieldsInRange}

-- the fields of every decoded command are in range
pub sound_command : (w : ℕ) → w < 2 ^ 64 → FieldsInRange (command_of w)
unfolding command_of FieldsInRange
sound_command w l =
    let v : v_of w ≤ top_word = omega arith in
    cond_ind FieldsInRange (is_command w)
    (λ ok. let n = named_in w ok in
    let d : d_of w < registers = omega (arith, n.d) in
    let a : a_of w < registers = omega (arith, n.a) in
    let b : b_of w < registers = omega (arith, n.b) in
    cond_ind FieldsInRange (eqb (kind_of w) command.nop) (λ _. tt)
    (λ _. cond_ind FieldsInRange (eqb (kind_of w) command.halt) (λ _. tt)
    (λ _. cond_ind FieldsInRange (ltb (kind_of w) command.load) (λ _. (a, b, v))
    (λ _. cond_ind FieldsInRange (eqb (kind_of w) command.load) (λ _. a)
    (λ _. cond_ind FieldsInRange (eqb (kind_of w) command.store) (λ _. (a, b))
    (λ _. cond_ind FieldsInRange (eqb (kind_of w) command.goif) (λ _. (a, b, v))
    (λ _. cond_ind FieldsInRange (eqb (kind_of w) command.goxr) (λ _. (d, a, b))
    (λ _. cond_ind FieldsInRange (eqb (kind_of w) command.look) (λ _. v)
    (λ _. cond_ind FieldsInRange (eqb (kind_of w) command.stopif) (λ _. d)
    (λ _. cond_ind FieldsInRange (eqb (kind_of w) command.keep) (λ _. d)
    (λ _. cond_ind FieldsInRange (eqb (kind_of w) command.event) (λ _. v) (λ _. tt))))))))))))
    (λ _. tt)

pub word_fits : (v : ℕ) → v ≤ top_word → Held w32 v
word_fits v h = record { fits = omega arith }

-- the index of pc in the list, in 64 bits: for a pc below the base it is past any list
fetch_in : (ws : List ℕ) (base pc at : ℕ) → (at + base) % 2 ^ 64 ≡ pc → base < 2 ^ 32 → pc < 2 ^ 32 → length ws < 2 ^ 63 → at < length ws
    → fetch_of ws base pc ≡ command_of (get_or ws at 0)
unfolding fetch_of
fetch_in ws base pc at e b p n h =
    let i : base ≤ pc = omega arith in
    let j : pc - base ≡ at = omega arith in
    rw (le-leb _ _ i, j, lt-ltb _ _ h)

fetch_out : (ws : List ℕ) (base pc at : ℕ) → (at + base) % 2 ^ 64 ≡ pc → base < 2 ^ 32 → pc < 2 ^ 32 → at < 2 ^ 64 → length ws ≤ at
    → fetch_of ws base pc ≡ Invalid
unfolding fetch_of
fetch_out ws base pc at e b p n h = go (leb base pc) refl
  where
    go : (t : Bool) → leb base pc ≡ t → cond (t && ltb (pc - base) (length ws)) (command_of (get_or ws (pc - base) 0)) Invalid ≡ Invalid
    go true q = let i : base ≤ pc = leb-true base pc q in let j : pc - base ≡ at = omega arith in rw (j, le-ltb _ _ h)
    go false q = refl
