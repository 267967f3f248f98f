-- Turns the answers of checking, installing and rewriting into the facts of Facts.antt.
use mathlib.Core.Path.{◌≡◌, refl, sym, ◌∙◌, ap}
use mathlib.Core.Bool.{Bool, true, false, ◌&&◌, ◌||◌, not, cond}
use mathlib.Core.Logic.{◌⊎◌, inl, inr, ⊎_elim}
use mathlib.Core.List.{List, [], ◌∷◌}
use Prim.Native.Nat.{ℕ, zero, suc, ◌+◌, ◌-◌, ◌*◌, ◌/◌, ◌%◌, ◌<◌, ◌≤◌}
use native.Mathlib.Omega.{arith}
use borrow.Author.Tests.{ltb-true, ltb-false, leb-true, leb-false, eqb-true, eqb-false, lt-ltb, le-leb, eq-eqb}
use lib.Dec.{eqb, leb, ltb}
use lib.Count.{ones}
use lib.ListN.{length, get_or, set, length-set, get_or-eq_default}
use lib.Seq.{sets, length-sets, get_or-set_same, get_or-set_other}
use Rattle.types.specs.declared.Layout.{Layout}
use Rattle.types.specs.declared.Answer.{Answer}
use Rattle.types.specs.declared.Instr.{Instr}
use Rattle.types.specs.declared.Instr.TheVariants.{HALT, PLAIN, LOAD, STORE, GOIF, GOX, EVENT}
use Rattle.types.specs.Names.{most_instructions, most_bundles, most_commands, bundle_length, events, command, no_arrow}
use Rattle.spec.specs.Layouts.{right_layout, in_table, in_landings, protected, table_end, landings_end}
use Rattle.spec.specs.Policies.{Policy, entry_right, entries_right, right_policy}
use Rattle.spec.specs.Landings.{right_landings, landings_of}
use Rattle.spec.specs.Words.{kind_of, refusal_at, instr_of, routine, bundles_for}
use Rattle.spec.specs.Commands.{command_of, word_of, fetch_of}
use Rattle.spec.specs.Bundles.{shape_of, bundles_from, commands_of, command_count, base_right, base_room_answer, rewrite_answer, valid, decode_bundle}
use Rattle.spec.specs.Bundles.{bundle_at, is_bundle, shaped_at, passes_at, check_from, count_right, check_answer}
use Rattle.spec.specs.Claims.{Placed, SizeLaws, Installs}
use Rattle.spec.specs.Machines.{fits, install_answer, install_memory, install_machine}
use Rattle.types.specs.Records.{machine_at}
use Rattle.spec.proofs.Facts.{Ready, Right, Valid, Bundled, InstalledFacts}
use Rattle.spec.proofs.Bools.{no, cases, both, join, either, cond_ind, unless-ind, neither}
use Rattle.spec.proofs.Refusals.{TakesEach, takes_each, taken_then}
use Rattle.spec.proofs.Layouts.{LayoutFacts, layout_facts, outside}
use Rattle.spec.proofs.Landings.{length_landings, marks_of}
use Rattle.spec.proofs.Masks.{masks, sizes, base_room}
use Rattle.spec.proofs.Packing.{Held, bundle_reads}
use Rattle.spec.proofs.GuestWords.{taken_valid}

-- an answer of 0 means that the test passed
taken_if : (P : Type 0) (b : Bool) (x y : Answer) → (y.number ≡ 0 → ⊥) → (b ≡ true → x.number ≡ 0 → P) → (cond b x y).number ≡ 0 → P
taken_if P b x y f go = cond_ind (λ (a : Answer). a.number ≡ 0 → P) b go (λ t e. absurd (f e))

taken_unless : (P : Type 0) (b : Bool) (x y : Answer) → (x.number ≡ 0 → ⊥) → (b ≡ true → y.number ≡ 0 → P) → (cond (not b) x y).number ≡ 0 → P
taken_unless P b x y f go = unless-ind (λ (a : Answer). a.number ≡ 0 → P) b (λ t e. absurd (f e)) go

-- ---- checking

-- what a taken check says of a list of n bundles
pub record Passed (lay : Layout) (ws : List ℕ) (n : ℕ) : Type 0 where
  pub right : right_layout lay ≡ true
  pub count : length ws ≡ bundle_length * n
  pub most : n ≤ most_bundles
  pub single : ones n ≡ 1
  pub base : base_right lay n ≡ true
  pub each : (h : ℕ) → h < n → passes_at lay n ws h ≡ true

check_each : (lay : Layout) (n : ℕ) (ws : List ℕ) (h m : ℕ) → (check_from lay n ws h m).number ≡ 0 → (j : ℕ) → h ≤ j → j < h + m → passes_at lay n ws j ≡ true
unfolding check_from
check_each lay n ws h zero e j l u = absurd (omega arith)
check_each lay n ws h (suc m) e j l u =
    taken_if (passes_at lay n ws j ≡ true) (passes_at lay n ws h) _ _ (λ z. omega arith)
    (λ t r. ⊎_elim (λ q. rw (eqb-true j h q) t) (λ q. check_each lay n ws (h + 1) m r j (omega (arith, eqb-false j h q)) (omega arith)) (cases (eqb j h))) e

-- a number of commands that is not refused as bad count (12)
pub record Counted (k n : ℕ) : Type 0 where
  pub count : k ≡ bundle_length * n
  pub most : n ≤ most_bundles
  pub single : ones n ≡ 1

pub counted : (k : ℕ) → count_right k ≡ true → Counted k (k / bundle_length)
counted k c =
    let c₁ = both _ _ c in
    let c₀ = both _ _ c₁.0 in
    let most : k ≤ most_commands = leb-true _ _ c₀.0 in
    let fours : k % bundle_length ≡ 0 = eqb-true _ _ c₀.1 in
    record { count = omega arith; most = omega arith; single = eqb-true _ _ c₁.1 }

pub passed_of : (lay : Layout) (ws : List ℕ) → (check_answer lay ws).number ≡ 0 → Passed lay ws (length ws / bundle_length)
unfolding check_answer
passed_of lay ws =
    let n = length ws / bundle_length in
    let P = Passed lay ws n in
    taken_unless P (right_layout lay) _ _ (λ z. omega arith)
    (λ r. taken_unless P (count_right (length ws)) _ _ (λ z. omega arith)
    (λ c. taken_unless P (base_right lay n) _ _ (λ z. omega arith)
    (λ b e.
    let l = counted (length ws) c in
    record {
      right = r;
      count = l.count;
      most = l.most;
      single = l.single;
      base = b;
      each = λ h l. check_each lay n ws 0 n e h (omega arith) (omega arith);
    })))

pub passed_placed : (lay : Layout) (ws : List ℕ) (n : ℕ) → Passed lay ws n → Placed lay ws n
passed_placed lay ws n p =
    let q : length ws / bundle_length ≡ n = omega (arith, p.count) in
    let fours : length ws % bundle_length ≡ 0 = omega (arith, p.count) in
    let most : length ws ≤ most_commands = omega (arith, p.count, p.most) in
    record { layout = p.right; count = rw (q, fours, le-leb _ _ most, eq-eqb _ _ p.single); base = p.base }

pub layout_of_lem : (lay : Layout) (ws : List ℕ) → (check_answer lay ws).number ≡ 0 → right_layout lay ≡ true
layout_of_lem lay ws e = (passed_of lay ws e).right

-- ---- numbers that fit a word

pub some_ones : (n : ℕ) → ones n ≡ 1 → 0 < n
unfolding ones
some_ones zero h = omega arith
some_ones (suc n) h = omega arith

held_of : (lay : Layout) (n : ℕ) → LayoutFacts lay → ones n ≡ 1 → n ≤ most_bundles → base_right lay n ≡ true → Held lay n
held_of lay n f single most base =
    record {
      low = omega (arith, f.ordered, f.box, f.size);
      high = omega (arith, f.box, f.size);
      room = base_room lay.base n single most (eqb-true _ _ base) f.base;
      some = some_ones n single;
    }

-- ---- the bundles of a passed list

pub valid_is : (n : ℕ) (i : Instr) → valid n i ≡ true → Valid n i
unfolding valid
valid_is n HALT t = tt
valid_is n (PLAIN k d a b v) t =
    let t₇ = both _ _ t in
    let t₆ = both _ _ t₇.0 in
    let t₅ = both _ _ t₆.0 in
    let t₄ = both _ _ t₅.0 in
    let t₃ = both _ _ t₄.0 in
    let t₂ = both _ _ t₃.0 in
    let t₁ = both _ _ t₂.0 in
    let t₀ = both _ _ t₁.0 in (
      leb-true _ _ t₀.0,
      leb-true _ _ t₀.1,
      ltb-true _ _ t₁.1,
      ltb-true _ _ t₂.1,
      ltb-true _ _ t₃.1,
      leb-true _ _ t₄.1,
      leb-true _ _ t₅.1,
      leb-true _ _ t₆.1,
      leb-true _ _ t₇.1,
    )
valid_is n (LOAD d a) t = let t₀ = both _ _ t in (ltb-true _ _ t₀.0, ltb-true _ _ t₀.1)
valid_is n (STORE a b) t = let t₀ = both _ _ t in (ltb-true _ _ t₀.0, ltb-true _ _ t₀.1)
valid_is n (GOIF a b c v) t =
    let t₂ = both _ _ t in
    let t₁ = both _ _ t₂.0 in
    let t₀ = both _ _ t₁.0 in
    (ltb-true _ _ t₀.0, ltb-true _ _ t₀.1, leb-true _ _ t₁.1, ltb-true _ _ t₂.1)
valid_is n (GOX d a b c) t =
    let t₂ = both _ _ t in
    let t₁ = both _ _ t₂.0 in
    let t₀ = both _ _ t₁.0 in
    (ltb-true _ _ t₀.0, ltb-true _ _ t₀.1, ltb-true _ _ t₁.1, leb-true _ _ t₂.1)
valid_is n (EVENT e) t = ltb-true e events t

-- a bundle that no other follows is HALT
last_halts : (h n : ℕ) (lay : Layout) (w y z : ℕ) → (ltb h n || eqb (kind_of w) command.halt) ≡ true → n ≤ h → decode_bundle lay w y z ≡ HALT
unfolding decode_bundle
last_halts h n lay w y z t l = ⊎_elim (λ e. absurd (let u = ltb-true h n e in omega arith)) (λ e. rw e) (either _ _ t)

-- the command at position p of bundle h
fetched : (ws : List ℕ) (base h p : ℕ) → bundle_length * h + p < length ws → fetch_of ws base (base + bundle_length * h + p) ≡ command_of (get_or ws (bundle_length * h + p) 0)
unfolding fetch_of
fetched ws base h p l =
    let at : base + 4 * h + p - base ≡ 4 * h + p = omega arith in
    rw (le-leb base (base + 4 * h + p) (omega arith), at, lt-ltb (4 * h + p) (length ws) l)

pub bundle_parts : (lay : Layout) (n : ℕ) (i : Instr) (w x y z : ℕ) → is_bundle lay n i w x y z ≡ true → Valid n i × (w ≡ word_of (shape_of lay n i 0))
    × (x ≡ word_of (shape_of lay n i 1)) × (y ≡ word_of (shape_of lay n i 2)) × (z ≡ word_of (shape_of lay n i 3))
unfolding is_bundle
bundle_parts lay n i w x y z t =
    let t₃ = both _ _ t in
    let t₂ = both _ _ t₃.0 in
    let t₁ = both _ _ t₂.0 in
    let t₀ = both _ _ t₁.0 in
    (valid_is n i t₀.0, eqb-true _ _ t₀.1, eqb-true _ _ t₁.1, eqb-true _ _ t₂.1, eqb-true _ _ t₃.1)

-- four words, by position
pub four_words : (ws : List ℕ) (at : ℕ) (word : ℕ → ℕ) → get_or ws at 0 ≡ word 0 → get_or ws (at + 1) 0 ≡ word 1 → get_or ws (at + 2) 0 ≡ word 2
    → get_or ws (at + 3) 0 ≡ word 3 → (p : ℕ) → p < bundle_length → get_or ws (at + p) 0 ≡ word p
four_words ws at word a b c d zero l = let z : at + 0 ≡ at = omega arith in rw z a
four_words ws at word a b c d (suc zero) l = b
four_words ws at word a b c d (suc (suc zero)) l = c
four_words ws at word a b c d (suc (suc (suc zero))) l = d
four_words ws at word a b c d (suc (suc (suc (suc p)))) l = absurd (omega arith)

module _ (lay : Layout) (ws : List ℕ) (n : ℕ) (passed : Passed lay ws n) where
  module _ (h : ℕ) (lh : h < n) where
    shaped : shaped_at lay n ws h ≡ true
    unfolding passes_at
    shaped = (both (shaped_at lay n ws h) _ (passed.each h lh)).0

    pub passed_valid : Valid n (bundle_at lay ws h)
    unfolding shaped_at
    passed_valid = (bundle_parts lay n _ _ _ _ _ shaped).0

    pub passed_word : (p : ℕ) → p < bundle_length → get_or ws (bundle_length * h + p) 0 ≡ word_of (shape_of lay n (bundle_at lay ws h) p)
    unfolding shaped_at
    passed_word =
        let t = bundle_parts lay n _ _ _ _ _ shaped in
        four_words ws (bundle_length * h) (λ (p : ℕ). word_of (shape_of lay n (bundle_at lay ws h) p)) t.1 t.2 t.3 t.4

  pub passed_last : bundle_at lay ws (n - 1) ≡ HALT
  unfolding passes_at bundle_at
  passed_last =
      let some = some_ones n passed.single in
      last_halts (n - 1 + 1) n lay _ _ _ (both (shaped_at lay n ws (n - 1)) _ (passed.each (n - 1) (omega arith))).1 (omega arith)

  pub passed_bundled : Bundled lay ws n (bundle_at lay ws)
  passed_bundled =
      let some = some_ones n passed.single in
      record {
        some = some;
        valid = passed_valid;
        each =
            λ h p lh lp.
            fetched ws lay.base h p (omega (arith, passed.count)) ∙ ap command_of (passed_word h lh p lp)
            ∙ bundle_reads lay n (held_of lay n (layout_facts lay passed.right) passed.single passed.most passed.base) (bundle_at lay ws h) (passed_valid h lh) p lp;
        last = passed_last;
      }

pub bundled_of : (lay : Layout) (ws : List ℕ) → (check_answer lay ws).number ≡ 0 → Bundled lay ws (length ws / bundle_length) (bundle_at lay ws)
bundled_of lay ws e = passed_bundled lay ws _ (passed_of lay ws e)

-- ---- installing

pub fits_of : (lay : Layout) (pol : Policy) (mem : List ℕ) → (install_answer lay pol mem).number ≡ 0 → (fits lay mem ≡ true) × (right_policy lay pol ≡ true)
unfolding install_answer
fits_of lay pol mem =
    let P = (fits lay mem ≡ true) × (right_policy lay pol ≡ true) in
    taken_unless P (fits lay mem) _ _ (λ z. omega arith)
    (λ f. taken_unless P (right_policy lay pol) _ _ (λ z. omega arith)
    (λ p. taken_unless P (right_landings pol.landings) _ _ (λ z. omega arith) (λ r e. (f, p))))

pub machine_of_lem : (lay : Layout) (pol : Policy) (mem : List ℕ) → (install_answer lay pol mem).number ≡ 0 → install_machine lay pol mem ≡ machine_at lay.base
unfolding install_machine
machine_of_lem lay pol mem e = rw (eq-eqb _ _ e)

-- what holds of a policy that is right for a layout
pub record PolicyFacts (lay : Layout) (pol : Policy) : Type 0 where
  pub states : pol.states ≡ lay.states
  pub size : length pol.table ≡ events * pol.states
  pub start : pol.start < pol.states
  pub entries : entries_right pol.states pol.table ≡ true

pub policy_facts : (lay : Layout) (pol : Policy) → right_policy lay pol ≡ true → PolicyFacts lay pol
unfolding right_policy
policy_facts lay pol e =
    let t₂ = both _ _ e in
    let t₁ = both _ _ t₂.0 in
    let t₀ = both _ _ t₁.0 in
    record { states = eqb-true _ _ t₀.0; size = eqb-true _ _ t₀.1; start = ltb-true _ _ t₁.1; entries = t₂.1 }

-- an entry other than 255 is a state
pub entry : (s : ℕ) (bs : List ℕ) → entries_right s bs ≡ true → (i : ℕ) → (get_or bs i no_arrow ≡ no_arrow → ⊥) → get_or bs i no_arrow < s
entry s [] t i f = absurd (f refl)
entry s (b ∷ bs) t zero f = ⊎_elim (λ l. ltb-true b s l) (λ e. absurd (f (eqb-true b no_arrow e))) (either _ _ (both _ _ t).0)
entry s (b ∷ bs) t (suc i) f = entry s bs (both (entry_right s b) (entries_right s bs) t).1 i f

-- after `sets`: the elements written, and those beside them
pub sets_beside : (vs l : List ℕ) (i j : ℕ) → (j < i) ⊎ (i + length vs ≤ j) → get_or (sets l i vs) j 0 ≡ get_or l j 0
sets_beside [] l i j o = refl
sets_beside (a ∷ vs) l i j o =
    sets_beside vs (set l i a) (suc i) j (⊎_elim (λ (h : j < i). inl (omega arith)) (λ (h : i + suc (length vs) ≤ j). inr (omega arith)) o)
    ∙ get_or-set_other l i j a 0 (⊎_elim (λ (h : j < i) (e : j ≡ i). omega arith) (λ (h : i + suc (length vs) ≤ j) (e : j ≡ i). omega arith) o)

sets_at : (vs l : List ℕ) (i j d : ℕ) → i + length vs ≤ length l → j < length vs → get_or (sets l i vs) (i + j) 0 ≡ get_or vs j d
sets_at [] l i j d r h = absurd (omega arith)
sets_at (a ∷ vs) l i zero d r h =
    let z : i + 0 ≡ i = omega arith in
    rw z (sets_beside vs (set l i a) (suc i) i (inl (omega arith)) ∙ get_or-set_same l i a 0 (omega arith))
sets_at (a ∷ vs) l i (suc j) d r h =
    let z : i + suc j ≡ suc i + j = omega arith in
    rw z (sets_at vs (set l i a) (suc i) j d (omega (arith, length-set l i a)) (omega arith))

pub laid_of : (lay : Layout) (pol : Policy) (mem : List ℕ) → (install_answer lay pol mem).number ≡ 0 → InstalledFacts lay pol (install_memory lay pol mem)
unfolding install_memory
laid_of lay pol mem e =
    let o = fits_of lay pol mem e in
    let m = both (right_layout lay) (eqb (length mem) lay.size) o.0 in
    let f = layout_facts lay m.0 in
    let size : length mem ≡ lay.size = eqb-true _ _ m.1 in
    let p = policy_facts lay pol o.1 in
    let start = set mem lay.cell pol.start in
    let long = length-set mem lay.cell pol.start in
    let mid = sets start lay.table pol.table in
    let marks = landings_of pol.landings in
    let wide = length_landings pol.landings in
    let same : length mid ≡ lay.size = length-sets start lay.table pol.table ∙ long ∙ size in
    rw (eq-eqb _ _ e)
    (record {
      guarded =
          record {
            size = length-sets mid lay.landings marks ∙ same;
            table =
                λ i h.
                sets_beside marks mid lay.landings (lay.table + i) (⊎_elim (λ x. inl (omega arith)) (λ x. inr (omega (arith, wide))) f.table_landings)
                ∙ sets_at pol.table start lay.table i no_arrow (omega (arith, p.size, p.states, f.table)) (omega (arith, p.size, p.states));
            marks = marks_of (sets mid lay.landings marks) pol.landings lay.landings
                (λ k h. sets_at marks mid lay.landings k 0 (omega (arith, wide, same, f.landings)) (omega (arith, wide)));
          };
      cell =
          sets_beside marks mid lay.landings lay.cell (⊎_elim (λ h. inl h) (λ h. inr (omega (arith, wide))) f.cell_landings)
          ∙ sets_beside pol.table start lay.table lay.cell (⊎_elim (λ h. inl h) (λ h. inr (omega (arith, p.size, p.states))) f.cell_table)
          ∙ get_or-set_same mem lay.cell pol.start 0 (omega (arith, f.cell));
    })

-- installing does not write unprotected cells
unprotected : (lay : Layout) (i : ℕ) → protected lay i ≡ false → (i ≡ lay.cell → ⊥) × ((i < lay.table) ⊎ (table_end lay ≤ i)) × ((i < lay.landings) ⊎ (landings_end lay ≤ i))
unfolding protected in_table in_landings
unprotected lay i p =
    let a = neither _ _ p in
    let b = neither _ _ a.1 in
    (eqb-false i lay.cell a.0, outside_of lay.table i (table_end lay) b.0, outside_of lay.landings i (landings_end lay) b.1)
  where
    outside_of : (low i high : ℕ) → (leb low i && ltb i high) ≡ false → (i < low) ⊎ (high ≤ i)
    outside_of low i high h =
        ⊎_elim (λ e. ⊎_elim (λ f. absurd (no (sym h ∙ join _ _ e f))) (λ f. inr (ltb-false i high f)) (cases (ltb i high))) (λ e. inl (leb-false low i e)) (cases (leb low i))

pub install_rest : (lay : Layout) (pol : Policy) (mem : List ℕ) → (install_answer lay pol mem).number ≡ 0 → (i : ℕ) → protected lay i ≡ false → get_or (install_memory lay pol mem) i 0 ≡ get_or mem i 0
unfolding install_memory
install_rest lay pol mem e i h =
    let o = fits_of lay pol mem e in
    let p = policy_facts lay pol o.1 in
    let u = unprotected lay i h in
    let wide = length_landings pol.landings in
    rw (eq-eqb _ _ e)
    (sets_beside (landings_of pol.landings) _ lay.landings i (⊎_elim (λ x. inl x) (λ x. inr (omega (arith, wide))) u.2)
    ∙ sets_beside pol.table _ lay.table i (⊎_elim (λ x. inl x) (λ x. inr (omega (arith, p.size, p.states))) u.1)
    ∙ get_or-set_other mem lay.cell i pol.start 0 u.0)

pub installs : Installs
installs lay pol mem e =
    let l = laid_of lay pol mem e in
    record {
      size = l.guarded.size ∙ sym (eqb-true _ _ (both (right_layout lay) _ (fits_of lay pol mem e).0).1);
      cell = l.cell;
      table = l.guarded.table;
      landings = l.guarded.marks;
      rest = install_rest lay pol mem e;
    }

-- ---- a right layout with a right policy

pub ready_facts : (lay : Layout) (pol : Policy) (n : ℕ) → right_layout lay ≡ true → right_policy lay pol ≡ true → 0 < n → n ≤ most_bundles → Ready lay pol n
ready_facts lay pol n r q some most =
    let f = layout_facts lay r in
    let p = policy_facts lay pol q in
    record {
      ordered = f.ordered;
      box = f.box;
      cell = f.cell;
      table = f.table;
      cell_out = outside lay lay.cell f.cell_box;
      table_out = λ i h. outside lay (lay.table + i) (⊎_elim (λ x. inr (omega arith)) (λ x. inl (omega arith)) f.table_box);
      table_cell = λ i h e. ⊎_elim (λ (x : lay.cell < lay.table). omega arith) (λ (x : table_end lay ≤ lay.cell). omega arith) f.cell_table;
      landings_out = λ k h. outside lay (lay.landings + k) (⊎_elim (λ x. inr (omega arith)) (λ x. inl (omega arith)) f.landings_box);
      landings_cell = λ k h e. ⊎_elim (λ (x : lay.cell < lay.landings). omega arith) (λ (x : landings_end lay ≤ lay.cell). omega arith) f.cell_landings;
      entries =
          λ q e hq he.
          rw (lt-ltb e events he) (λ g. rw (← p.states) (entry pol.states pol.table p.entries (events * q + e) g));
      start = rw (← p.states) p.start;
      mask = (masks lay r).inside;
      some = some;
      most = most;
    }

right_facts : (lay : Layout) (pol : Policy) (n : ℕ) → right_layout lay ≡ true → right_policy lay pol ≡ true → ones n ≡ 1 → n ≤ most_bundles → base_right lay n ≡ true → Right lay pol n
right_facts lay pol n r q single most base =
    record {
      ready = ready_facts lay pol n r q (some_ones n single) most;
      room = base_room lay.base n single most (eqb-true _ _ base) (layout_facts lay r).base;
      lands = λ x. (masks lay r).lands n x single most base;
    }

pub right_of : (lay : Layout) (pol : Policy) (ws mem : List ℕ) → (check_answer lay ws).number ≡ 0 → (install_answer lay pol mem).number ≡ 0 → Right lay pol (length ws / bundle_length)
right_of lay pol ws mem c e =
    let p = passed_of lay ws c in
    right_facts lay pol _ p.right (fits_of lay pol mem e).1 p.single p.most p.base

-- ---- rewriting

-- what a taken rewriting says of a routine's words
pub record Taken (lay : Layout) (code : List ℕ) : Type 0 where
  pub right : right_layout lay ≡ true
  pub most : length code ≤ most_instructions
  pub each : TakesEach (refusal_at (length code)) code
  pub base : base_right lay (bundles_for (length code)) ≡ true

pub taken_of : (lay : Layout) (code : List ℕ) (room : ℕ) → (rewrite_answer lay code room).number ≡ 0 → Taken lay code
unfolding rewrite_answer base_room_answer
taken_of lay code room =
    let n = length code in
    let P = Taken lay code in
    taken_unless P (right_layout lay) _ _ (λ z. omega arith) (λ r.
    cond_ind (λ (a : Answer). a.number ≡ 0 → P) (ltb most_instructions n) (λ _ z. absurd (omega arith)) (λ m e.
    taken_then (refusal_at n) (λ _. P) code 0 (base_room_answer lay n room)
    (taken_unless P (base_right lay (bundles_for n)) _ _ (λ z. omega arith) (λ b.
    cond_ind (λ (a : Answer). a.number ≡ 0 → P) (ltb room (command_count n)) (λ _ z. absurd (omega arith)) (λ _ _.
    record { right = r; most = ltb-false _ _ m; each = takes_each (refusal_at n) code 0 _ e; base = b }))) e))

-- an instruction valid among m bundles is valid among more
pub grown : (m n : ℕ) (i : Instr) → m ≤ n → Valid m i → Valid n i
grown m n HALT h v = tt
grown m n (PLAIN k d a b x) h v = v
grown m n (LOAD d a) h v = v
grown m n (STORE a b) h v = v
grown m n (GOIF a b c x) h v = (v.0, v.1, v.2, omega arith)
grown m n (GOX d a b c) h v = v
grown m n (EVENT e) h v = v

pub past_end : (code : List ℕ) (i : ℕ) → length code ≤ i → routine code i ≡ HALT
unfolding routine instr_of
past_end code i h = rw (get_or-eq_default code 0 h)

-- bundles h to h + m − 1 of n, and their words
pub length_bundles : (lay : Layout) (n : ℕ) (is : ℕ → Instr) (h m : ℕ) → length (bundles_from lay n is h m) ≡ bundle_length * m
length_bundles lay n is h zero = refl
length_bundles lay n is h (suc m) = omega (arith, length_bundles lay n is (suc h) m)

bundles_word : (lay : Layout) (n : ℕ) (is : ℕ → Instr) (h m j p : ℕ) → j < m → p < bundle_length → get_or (bundles_from lay n is h m) (bundle_length * j + p) 0 ≡ word_of (shape_of lay n (is (h + j)) p)
bundles_word lay n is h zero j p lj lp = absurd (omega arith)
bundles_word lay n is h (suc m) zero p lj lp =
    let z : h + 0 ≡ h = omega arith in
    rw z (four_words (bundles_from lay n is h (suc m)) 0 (λ (p : ℕ). word_of (shape_of lay n (is h) p)) refl refl refl refl p lp)
bundles_word lay n is h (suc m) (suc j) p lj lp =
    let z : 4 * suc j + p ≡ suc (suc (suc (suc (4 * j + p)))) = omega arith in
    let y : h + suc j ≡ suc h + j = omega arith in
    rw (z, y) (bundles_word lay n is (suc h) m j p (omega arith) lp)

module _ (lay : Layout) (code : List ℕ) (taken : Taken lay code) where
  abbrev count : ℕ
  count = bundles_for (length code)

  pub size_laws : SizeLaws (length code)
  size_laws = sizes (length code) taken.most

  pub count_most : count ≤ most_bundles
  count_most = size_laws.most

  pub routine_valid : (h : ℕ) → Valid count (routine code h)
  unfolding routine
  routine_valid h =
      ⊎_elim
      (λ e. grown (length code + 1) count (routine code h) (omega (arith, size_laws.above)) (taken_valid (length code) (get_or code h 0) (taken.each h (ltb-true _ _ e))))
      (λ e. rw (past_end code h (ltb-false _ _ e)) tt)
      (cases (ltb h (length code)))

  pub routine_last : routine code (count - 1) ≡ HALT
  routine_last = past_end code (count - 1) (omega (arith, size_laws.above))

  pub routine_length : length (commands_of lay code) ≡ bundle_length * count
  routine_length = length_bundles lay count (routine code) 0 count

  pub routine_word : (h p : ℕ) → h < count → p < bundle_length → get_or (commands_of lay code) (bundle_length * h + p) 0 ≡ word_of (shape_of lay count (routine code h) p)
  routine_word h p lh lp =
      bundles_word lay count (routine code) 0 count h p lh lp ∙ (let z : 0 + h ≡ h = omega arith in rw z)

  pub routine_bundled : Bundled lay (commands_of lay code) count (routine code)
  routine_bundled =
      let some : 0 < count = omega (arith, size_laws.above) in
      record {
        some = some;
        valid = λ h lh. routine_valid h;
        each =
            λ h p lh lp.
            fetched (commands_of lay code) lay.base h p (omega (arith, routine_length)) ∙ ap command_of (routine_word h p lh lp)
            ∙ bundle_reads lay count (held_of lay count (layout_facts lay taken.right) size_laws.power count_most taken.base) (routine code h) (routine_valid h) p lp;
        last = routine_last;
      }

pub bundled_routine : (lay : Layout) (code : List ℕ) (room : ℕ) → (rewrite_answer lay code room).number ≡ 0 → Bundled lay (commands_of lay code) (bundles_for (length code)) (routine code)
bundled_routine lay code room e = routine_bundled lay code (taken_of lay code room e)

pub right_routine : (lay : Layout) (pol : Policy) (code mem : List ℕ) (room : ℕ) → (rewrite_answer lay code room).number ≡ 0
    → (install_answer lay pol mem).number ≡ 0 → Right lay pol (bundles_for (length code))
right_routine lay pol code mem room r e =
    let t = taken_of lay code room r in
    right_facts lay pol _ t.right (fits_of lay pol mem e).1 (size_laws lay code t).power (count_most lay code t) t.base
