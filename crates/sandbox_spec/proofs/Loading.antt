-- A load that is taken (0) satisfies demand 3's premise; also bounds of a load's answer.
use mathlib.Core.Path.{◌≡◌, refl, sym, ◌∙◌, ap, subst}
use mathlib.Core.List.{List}
use Prim.Native.Nat.{ℕ}
use native.Mathlib.Omega.{arith}
use borrow.Author.Tests.{eq-eqb}
use lib.Dec.{lit<}
use lib.ListN.{length, take}
use Rattle.types.specs.declared.Layout.{Layout}
use Rattle.types.specs.declared.Answer.{Answer}
use Rattle.types.specs.Names.{most_instructions, most_commands, answer}
use Rattle.spec.specs.Policies.{Policy}
use Rattle.spec.specs.Bytes.{words_in, read_answer}
use Rattle.spec.specs.Bundles.{commands_of, command_count, rewrite_answer, check_answer}
use Rattle.spec.specs.Machines.{install_answer}
use Rattle.spec.specs.Runs.{Session, initial_session, MemoriesPreserved}
use Rattle.spec.proofs.Refusals.{else_next, else_none, output_start}
use Rattle.spec.proofs.Counts.{Bounded, or_else_lem, read_bound, rewrite_bound, rewrite_taken, check_bound, install_bound, length_commands}
use Rattle.spec.proofs.Isolation.{isolation}
use Rattle.sandbox_spec.specs.Loading.{translate_answer, load_answer, load_commands, load_memory, load_machine}
use Rattle.sandbox_spec.specs.Claims.{loaded_at, Loads}

module _ (lay : Layout) (pol : Policy) (bytes : List ℕ) (room : ℕ) (mem : List ℕ) (z : (load_answer lay pol bytes room mem).number ≡ 0) where
  -- no part refuses
  record Parts : Type 0 where
    rewritten : (rewrite_answer lay (words_in bytes) room).number ≡ 0
    passed : (check_answer lay (commands_of lay (words_in bytes))).number ≡ 0
    installed : (install_answer lay pol mem).number ≡ 0
    whole : load_answer lay pol bytes room mem ≡ answer 0 (command_count (length (words_in bytes)))

  parts : Parts
  unfolding translate_answer load_answer
  parts =
      let a = translate_answer lay bytes room in
      let t = else_none a _ z in
      let i = else_none (install_answer lay pol mem) a t.1 in
      let r = else_none (read_answer bytes most_instructions) _ t.0 in
      let w = else_none (rewrite_answer lay (words_in bytes) room) _ r.1 in
      let c = else_none (check_answer lay (commands_of lay (words_in bytes))) _ w.1 in
      record {
        rewritten = w.0;
        passed = c.0;
        installed = i.0;
        whole = else_next a _ t.0 ∙ else_next _ a i.0 ∙ else_next _ _ r.0 ∙ else_next _ _ w.0 ∙ else_next _ _ c.0;
      }

  first : loaded_at lay pol bytes room mem ≡ initial_session lay pol mem
  unfolding load_machine load_memory
  first = rw (eq-eqb _ _ z)

  commands : (out : List ℕ) → length out ≡ room → take (load_answer lay pol bytes room mem).place (load_commands lay pol bytes out mem) ≡ commands_of lay (words_in bytes)
  unfolding load_commands
  commands out e =
      rw e
      (output_start (load_answer lay pol bytes room mem) (commands_of lay (words_in bytes)) out z _
      (length_commands lay (words_in bytes) ∙ ap (λ (a : Answer). a.place) (sym parts.whole)))

pub loads : Loads
loads lay pol bytes out mem z =
    let p = parts lay pol bytes (length out) mem z in
    let f = first lay pol bytes (length out) mem z in
    let c = commands lay pol bytes (length out) mem z out refl in
    let ws = take (load_answer lay pol bytes (length out) mem).place (load_commands lay pol bytes out mem) in
    let passed = ap (λ (l : List ℕ). (check_answer lay l).number) c ∙ p.passed in
    record {
      rewritten = p.rewritten;
      commands = c;
      passed = passed;
      installed = p.installed;
      first = f;
      isolated =
          λ gs l.
          isolation lay pol ws mem gs (record { passed = passed; installed = p.installed; preserved = subst (λ (x : Session). MemoriesPreserved lay ws x gs) f l });
    }

-- the number fits a byte, and the place is at most 4,096
translate_bound : (lay : Layout) (s : List ℕ) (room : ℕ) → Bounded most_commands room (translate_answer lay s room)
unfolding translate_answer
translate_bound lay s room =
    let ws = words_in s in
    let b = rewrite_bound lay ws room in
    or_else_lem _ _ (read_answer s most_instructions) _ (read_bound s _).number (omega (arith, (read_bound s most_instructions).place))
    (λ _. or_else_lem _ _ (rewrite_answer lay ws room) _ b.number b.place
    (λ z. let e : command_count (length ws) ≡ (rewrite_answer lay ws room).place = ap (λ (x : Answer). x.place) (sym (rewrite_taken lay ws room z)) in
    or_else_lem _ _ (check_answer lay (commands_of lay ws)) _ (check_bound lay _).number (omega (arith, (check_bound lay (commands_of lay ws)).place))
    (λ _. record { number = lit< tt; place = omega (arith, b.place); taken = λ _. omega (arith, b.taken z) })))

pub load_bound : (lay : Layout) (pol : Policy) (s : List ℕ) (room : ℕ) (mem : List ℕ) → Bounded most_commands room (load_answer lay pol s room mem)
unfolding load_answer
load_bound lay pol s room mem =
    let t = translate_bound lay s room in
    or_else_lem _ _ (translate_answer lay s room) _ t.number t.place
    (λ _. or_else_lem _ _ (install_answer lay pol mem) _ (install_bound lay pol mem).number (omega (arith, (install_bound lay pol mem).place)) (λ _. t))
