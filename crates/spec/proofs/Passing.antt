-- The checker passes exactly what the rewriter writes.
use mathlib.Core.Path.{◌≡◌, refl, sym, ◌∙◌, ap, ap₂}
use mathlib.Core.Bool.{true, false, ◌||◌}
use mathlib.Core.Logic.{⊎_elim}
use mathlib.Core.List.{List, [], ◌∷◌}
use Prim.Native.Nat.{ℕ, zero, suc, ◌+◌, ◌-◌, ◌*◌, ◌/◌, ◌%◌, ◌^◌, ◌<◌, ◌≤◌}
use native.Mathlib.Omega.{arith}
use borrow.Author.Tests.{ltb-true, ltb-false, lt-ltb, le-ltb, le-leb, eq-eqb, ne_eqb}
use lib.Dec.{eqb, ltb, lit<}
use lib.Count.{count_trailing_zeros}
use lib.ListN.{length, get_or}
use lib.Seq.{ext_get_or}
use Rattle.types.specs.declared.Layout.{Layout}
use Rattle.types.specs.declared.Answer.{Answer}
use Rattle.types.specs.declared.Instr.{Instr}
use Rattle.types.specs.declared.Instr.TheVariants.{HALT, PLAIN, LOAD, STORE, GOIF, GOX, EVENT}
use Rattle.types.specs.Names.{most_instructions, most_commands, bundle_length, bundle_shift, hidden, guest_registers, top_condition, events, guest, command, plain_step, answer}
use Rattle.spec.specs.Words.{kind_of, refusal_at, instr_of, routine, bundles_for}
use Rattle.spec.specs.Commands.{limits_of, word_of}
use Rattle.spec.specs.Bundles.{address_of, shape_of, commands_of, command_count, base_room_answer, rewrite_answer, rewrite_output, valid, decode_bundle}
use Rattle.spec.specs.Bundles.{bundle_at, is_bundle, shaped_at, passes_at, check_from, check_answer}
use Rattle.spec.specs.Claims.{Placed, RewriteLeaves, RewrittenPasses, Rewrites, PassedRewrites, PassedDecodes}
use Rattle.spec.proofs.Facts.{Valid}
use Rattle.spec.proofs.Bools.{cases}
use Rattle.spec.proofs.Masks.{one_bit, sizes}
use Rattle.spec.proofs.Refusals.{none_refused, output_start}
use Rattle.spec.proofs.Counts.{length_commands, rewrite_taken as answer-taken}
use Rattle.spec.proofs.Packing.{InBits, guest_bits, condition_bits, pack_kind, pack_d, pack_a, pack_b, pack_c, pack_v}
use Rattle.spec.proofs.GuestWords.{guest_word, guest_taken, guest_instr}
use Rattle.spec.proofs.Conditions.{counted, Passed, passed_of, passed_valid, passed_word, passed_last, Taken, taken_of, past_end, some_ones}
use Rattle.spec.proofs.Conditions.{size_laws, count_most, routine_valid, routine_last, routine_length, routine_word, bundled_of}

-- ---- an instruction can be read off its bundle

-- a plain command's kind is none of the other bundles' first kinds
record PlainKind (k : ℕ) : Type 0 where
  in_bits : k + plain_step < 2 ^ 8
  no_halt : k + plain_step ≡ command.halt → ⊥
  no_andi : k + plain_step ≡ command.andi → ⊥
  no_shl : k + plain_step ≡ command.shl → ⊥
  no_goif : k + plain_step ≡ command.goif → ⊥
  no_look : k + plain_step ≡ command.look → ⊥
  back : k + plain_step - plain_step ≡ k

plain_kind : (k : ℕ) → guest.set ≤ k → k ≤ guest.sar → PlainKind k
plain_kind k l h = omega arith

-- the bundle number of an address
bundle_of_lem : (base v : ℕ) → (base + bundle_length * v - base) / bundle_length ≡ v
bundle_of_lem base v = omega arith

module _ (lay : Layout) (n : ℕ) where
  pub bundle_back : (i : Instr) → Valid n i → decode_bundle lay (word_of (shape_of lay n i 0)) (word_of (shape_of lay n i 2)) (word_of (shape_of lay n i 3)) ≡ i
  unfolding decode_bundle shape_of word_of
  bundle_back HALT g = refl
  bundle_back (PLAIN k d a b v) g =
      let l = plain_kind k g.0 g.1 in
      let h : InBits (k + plain_step) d a b 0 = (l.in_bits, guest_bits d g.2, guest_bits a g.3, guest_bits b g.4, lit< tt) in
      rw (pack_kind (k + plain_step) d a b 0 v h, pack_d (k + plain_step) d a b 0 v h, pack_a (k + plain_step) d a b 0 v h, pack_b (k + plain_step) d a b 0 v h, pack_v (k + plain_step) d a b 0 v h)
      (rw (
        ne_eqb _ command.halt l.no_halt,
        ne_eqb _ command.andi l.no_andi,
        ne_eqb _ command.goif l.no_goif,
        ne_eqb _ command.shl l.no_shl,
        ne_eqb _ command.look l.no_look,
        l.back,
      ))
  bundle_back (LOAD d a) g =
      let h : InBits command.andi hidden a 0 0 = (lit< tt, lit< tt, guest_bits a g.1, lit< tt, lit< tt) in
      let j : InBits command.load d hidden 0 0 = (lit< tt, guest_bits d g.0, lit< tt, lit< tt, lit< tt) in
      rw (pack_kind command.andi hidden a 0 0 lay.high h, pack_kind command.load d hidden 0 0 0 j, pack_d command.load d hidden 0 0 0 j, pack_a command.andi hidden a 0 0 lay.high h)
  bundle_back (STORE a b) g =
      let h : InBits command.andi hidden a 0 0 = (lit< tt, lit< tt, guest_bits a g.0, lit< tt, lit< tt) in
      let j : InBits command.store 0 hidden b 0 = (lit< tt, lit< tt, lit< tt, guest_bits b g.1, lit< tt) in
      rw (
        pack_kind command.andi hidden a 0 0 lay.high h,
        pack_kind command.store 0 hidden b 0 0 j,
        pack_a command.andi hidden a 0 0 lay.high h,
        pack_b command.store 0 hidden b 0 0 j,
      )
  bundle_back (GOIF a b c v) g =
      let h : InBits command.goif 0 a b c = (lit< tt, lit< tt, guest_bits a g.0, guest_bits b g.1, condition_bits c g.2) in
      rw (
        pack_kind command.goif 0 a b c (address_of lay v) h,
        pack_a command.goif 0 a b c (address_of lay v) h,
        pack_b command.goif 0 a b c (address_of lay v) h,
        pack_c command.goif 0 a b c (address_of lay v) h,
        pack_v command.goif 0 a b c (address_of lay v) h,
        bundle_of_lem lay.base v,
      )
  bundle_back (GOX d a b c) g =
      let h : InBits command.shl hidden d 0 0 = (lit< tt, lit< tt, guest_bits d g.0, lit< tt, lit< tt) in
      let j : InBits command.goxr hidden a b c = (lit< tt, lit< tt, guest_bits a g.1, guest_bits b g.2, condition_bits c g.3) in
      rw (
        pack_kind command.shl hidden d 0 0 bundle_shift h,
        pack_a command.shl hidden d 0 0 bundle_shift h,
        pack_a command.goxr hidden a b c 0 j,
        pack_b command.goxr hidden a b c 0 j,
        pack_c command.goxr hidden a b c 0 j,
      )
  bundle_back (EVENT e) g =
      let h : InBits command.look hidden 0 0 0 = (lit< tt, lit< tt, lit< tt, lit< tt, lit< tt) in
      rw (pack_kind command.look hidden 0 0 0 e h, pack_v command.look hidden 0 0 0 e h)

  pub is_valid : (i : Instr) → Valid n i → valid n i ≡ true
  unfolding valid
  is_valid HALT g = refl
  is_valid (PLAIN k d a b v) g =
      rw (le-leb guest.set k g.0, le-leb k guest.sar g.1, lt-ltb d guest_registers g.2, lt-ltb a guest_registers g.3, lt-ltb b guest_registers g.4)
      (rw (le-leb d (limits_of (k + plain_step)).d g.5, le-leb a (limits_of (k + plain_step)).a g.6, le-leb b (limits_of (k + plain_step)).b g.7, le-leb v (limits_of (k + plain_step)).v g.8))
  is_valid (LOAD d a) g = rw (lt-ltb d guest_registers g.0, lt-ltb a guest_registers g.1)
  is_valid (STORE a b) g = rw (lt-ltb a guest_registers g.0, lt-ltb b guest_registers g.1)
  is_valid (GOIF a b c v) g = rw (lt-ltb a guest_registers g.0, lt-ltb b guest_registers g.1, le-leb c top_condition g.2, lt-ltb v n g.3)
  is_valid (GOX d a b c) g = rw (lt-ltb d guest_registers g.0, lt-ltb a guest_registers g.1, lt-ltb b guest_registers g.2, le-leb c top_condition g.3)
  is_valid (EVENT e) g = lt-ltb e events g

  -- ---- a list of valid instructions' bundles, of which the last is HALT, passes
  module _ (ws : List ℕ) (is : ℕ → Instr) (each : (h p : ℕ) → h < n → p < bundle_length → get_or ws (bundle_length * h + p) 0 ≡ word_of (shape_of lay n (is h) p))
      (fine : (h : ℕ) → h < n → Valid n (is h)) (last : is (n - 1) ≡ HALT) (h : ℕ) (lh : h < n) where
    first_word : get_or ws (bundle_length * h) 0 ≡ word_of (shape_of lay n (is h) 0)
    first_word = let z : bundle_length * h ≡ bundle_length * h + 0 = omega arith in rw z (each h 0 lh (omega arith))

    pub back : bundle_at lay ws h ≡ is h
    unfolding bundle_at
    back = rw (first_word, each h 2 lh (omega arith), each h 3 lh (omega arith)) (bundle_back (is h) (fine h lh))

    bundle_shaped : shaped_at lay n ws h ≡ true
    unfolding shaped_at is_bundle
    bundle_shaped =
        rw (back, is_valid (is h) (fine h lh), eq-eqb _ _ first_word, eq-eqb _ _ (each h 1 lh (omega arith)), eq-eqb _ _ (each h 2 lh (omega arith)), eq-eqb _ _ (each h 3 lh (omega arith)))

    halts : (ltb (h + 1) n || eqb (kind_of (word_of (shape_of lay n (is h) 0))) command.halt) ≡ true
    unfolding shape_of word_of
    halts =
        ⊎_elim (λ (e : ltb (h + 1) n ≡ true). rw e) (λ (e : ltb (h + 1) n ≡ false). let q : h ≡ n - 1 = omega (arith, ltb-false (h + 1) n e) in rw (e, ap is q ∙ last)) (cases (ltb (h + 1) n))

    pub bundle_passes : passes_at lay n ws h ≡ true
    unfolding passes_at
    bundle_passes = rw (bundle_shaped, first_word) halts

check_all : (lay : Layout) (n : ℕ) (ws : List ℕ) (h m : ℕ) → ((j : ℕ) → j < h + m → passes_at lay n ws j ≡ true) → check_from lay n ws h m ≡ answer 0 0
unfolding check_from
check_all lay n ws h zero all = refl
check_all lay n ws h (suc m) all = rw (all h (omega arith)) (check_all lay n ws (h + 1) m (λ j l. all j (omega arith)))

check_taken : (lay : Layout) (ws : List ℕ) (n : ℕ) → Passed lay ws n → check_answer lay ws ≡ answer 0 0
unfolding check_answer
check_taken lay ws n p =
    let q : length ws / bundle_length ≡ n = omega (arith, p.count) in
    let fours : length ws % bundle_length ≡ 0 = omega (arith, p.count) in
    let most : length ws ≤ most_commands = omega (arith, p.count, p.most) in
    rw (p.right, q, fours, le-leb _ _ most, eq-eqb _ _ p.single, p.base) (check_all lay n ws 0 n (λ j l. p.each j (omega arith)))

pub list_passes : (lay : Layout) (ws : List ℕ) (is : ℕ → Instr) → let n = length ws / bundle_length in
    Placed lay ws n → ((h p : ℕ) → h < n → p < bundle_length → get_or ws (bundle_length * h + p) 0 ≡ word_of (shape_of lay n (is h) p)) →
    ((h : ℕ) → h < n → Valid n (is h)) → is (n - 1) ≡ HALT → check_answer lay ws ≡ answer 0 0
list_passes lay ws is p each fine last =
    let c = counted (length ws) p.count in
    check_taken lay ws (length ws / bundle_length)
    (record { right = p.layout; count = c.count; most = c.most; single = c.single; base = p.base; each = bundle_passes lay _ ws is each fine last })

pub rewritten_passes : RewrittenPasses
rewritten_passes lay code room e =
    let t = taken_of lay code room e in
    let n = bundles_for (length code) in
    check_taken lay (commands_of lay code) n
    (record {
      right = t.right;
      count = routine_length lay code t;
      most = count_most lay code t;
      single = (size_laws lay code t).power;
      base = t.base;
      each = bundle_passes lay n (commands_of lay code) (routine code) (routine_word lay code t) (λ h _. routine_valid lay code t h) (routine_last lay code t);
    })

-- ---- a passed list is a routine's

-- the guest words of instructions h to h + m − 1
code_from : (ℕ → Instr) → ℕ → ℕ → List ℕ
code_from is h zero = []
code_from is h (suc m) = guest_word (is h) ∷ code_from is (suc h) m

code_length : (is : ℕ → Instr) (h m : ℕ) → length (code_from is h m) ≡ m
unfolding code_from
code_length is h zero = refl
code_length is h (suc m) = ap suc (code_length is (suc h) m)

code_word : (is : ℕ → Instr) (h m j : ℕ) → j < m → get_or (code_from is h m) j 0 ≡ guest_word (is (h + j))
unfolding code_from
code_word is h zero j l = absurd (omega arith)
code_word is h (suc m) zero l = let z : h + 0 ≡ h = omega arith in rw z
code_word is h (suc m) (suc j) l = let z : h + suc j ≡ suc h + j = omega arith in rw z (code_word is (suc h) m j (omega arith))

rewrite_taken : (lay : Layout) (code : List ℕ) (room : ℕ) → Taken lay code → command_count (length code) ≤ room → rewrite_answer lay code room ≡ answer 0 (command_count (length code))
unfolding rewrite_answer base_room_answer
rewrite_taken lay code room t l =
    rw (t.right, le-ltb most_instructions (length code) t.most) (none_refused (refusal_at (length code)) code 0 _ t.each ∙ rw (t.base, le-ltb room (command_count (length code)) l))

module _ (lay : Layout) (ws : List ℕ) (n : ℕ) (p : Passed lay ws n) where
  abbrev code : List ℕ
  code = code_from (bundle_at lay ws) 0 (n - 1)

  some : 0 < n
  some = some_ones n p.single

  long : length code ≡ n - 1
  long = code_length (bundle_at lay ws) 0 (n - 1)

  word : (h : ℕ) → h < n - 1 → get_or code h 0 ≡ guest_word (bundle_at lay ws h)
  word h l = code_word (bundle_at lay ws) 0 (n - 1) h l ∙ (let z : 0 + h ≡ h = omega arith in rw z)

  -- N − 1 instructions give N bundles
  bundles : bundles_for (length code) ≡ n
  bundles =
      let power : n ≡ 2 ^ count_trailing_zeros 32 n = one_bit 32 n (omega (arith, p.most)) p.single in
      let s = sizes (n - 1) (omega (arith, p.most)) in
      ap bundles_for long ∙ omega (arith, some, power, s.above, s.least (count_trailing_zeros 32 n) (omega (arith, some, power)))

  taken : Taken lay code
  taken =
      let most = p.most in
      record {
        right = p.right;
        most = omega (arith, long);
        each =
            λ j l.
            let l' : j < n - 1 = omega (arith, long) in
            let e : n - 1 + 1 ≡ n = omega (arith, some) in
            rw (long, word j l') (guest_taken (n - 1) (omega arith) (bundle_at lay ws j) (rw e (passed_valid lay ws n p j (omega arith))));
        base = rw bundles p.base;
      }

  instr : (h : ℕ) → h < n → routine code h ≡ bundle_at lay ws h
  unfolding routine
  instr h l =
      ⊎_elim
      (λ (e : ltb h (n - 1) ≡ true).
      let l' = ltb-true h (n - 1) e in
      ap instr_of (word h l') ∙ guest_instr n (bundle_at lay ws h) (passed_valid lay ws n p h l))
      (λ (e : ltb h (n - 1) ≡ false).
      let u = ltb-false h (n - 1) e in
      let q : n - 1 ≡ h = omega arith in
      past_end code h (omega (arith, long)) ∙ sym (passed_last lay ws n p) ∙ ap (bundle_at lay ws) q)
      (cases (ltb h (n - 1)))

  same : commands_of lay code ≡ ws
  same =
      let size : length (commands_of lay code) ≡ bundle_length * n = routine_length lay code taken ∙ ap (λ (x : ℕ). bundle_length * x) bundles in
      ext_get_or 0 (commands_of lay code) ws (size ∙ sym p.count)
      (λ i l.
      let h = i / bundle_length in
      let at : bundle_length * h + i % bundle_length ≡ i = omega arith in
      let lh : h < n = omega (arith, size) in
      let lp : i % bundle_length < bundle_length = omega arith in
      ap (λ (x : ℕ). get_or (commands_of lay code) x 0) (sym at) ∙ routine_word lay code taken h (i % bundle_length) (rw bundles lh) lp
      ∙ ap₂ (λ (x : ℕ) (y : Instr). word_of (shape_of lay x y (i % bundle_length))) bundles (instr h lh)
      ∙ sym (passed_word lay ws n p h lh (i % bundle_length) lp)
      ∙ ap (λ (x : ℕ). get_or ws x 0) at)

  pub rewrites : Rewrites lay ws
  rewrites =
      let size : command_count (length code) ≡ length ws = ap (λ (x : ℕ). bundle_length * x) bundles ∙ sym p.count in
      record {
        code = code;
        takes = rewrite_taken lay code (length ws) taken (omega (arith, size)) ∙ ap (answer 0) size;
        same = same;
      }

pub rewrite_leaves : RewriteLeaves
unfolding rewrite_output
rewrite_leaves lay code out e =
    let n = length_commands lay code ∙ ap (λ (a : Answer). a.place) (sym (answer-taken lay code (length out) e)) in
    output_start (rewrite_answer lay code (length out)) (commands_of lay code) out e _ n

pub passed_decodes : PassedDecodes
passed_decodes lay ws e = (bundled_of lay ws e).each

pub passed_rewrites : PassedRewrites
passed_rewrites lay ws e = rewrites lay ws _ (passed_of lay ws e)
