-- Bounds of the answers: numbers fit a byte, places and counts fit their outputs.
use Prim.Native.Nat.{ℕ, zero, suc, ◌+◌, ◌-◌, ◌*◌, ◌/◌, ◌^◌, ◌≤◌, ◌<◌}
use mathlib.Core.Path.{◌≡◌, refl, sym, ◌∙◌, ap, subst}
use mathlib.Core.Bool.{Bool, ◌&&◌, ◌||◌, not}
use mathlib.Core.List.{List, [], ◌∷◌}
use native.Mathlib.Omega.{arith}
use lib.ListN.{length, get_or, set, drop, length-set, length-append}
use lib.Seq.{get_or-set_other}
use lib.Dec.{eqb, ltb, lit<}
use borrow.Author.Tests.{ltb-false, leb-true, eqb-false, eqb-true}
use Rattle.types.specs.declared.Layout.{Layout}
use Rattle.types.specs.declared.Machine.{Machine}
use Rattle.types.specs.declared.Fields.{Fields}
use Rattle.types.specs.declared.Answer.{Answer}
use Rattle.types.specs.Results.{Decoded}
use Rattle.types.specs.Results.{Word, RefusedWith}
use Rattle.types.specs.declared.Ending.{Ending}
use Rattle.types.specs.declared.Effect.{Effect}
use Rattle.types.specs.declared.Effect.TheVariants.{Go, SetReg, SetCell, Order, Probe, End, Wait}
use Rattle.types.specs.declared.Command.{Command}
use Rattle.types.specs.declared.Command.TheVariants.{Nop, Halt, Plain, Load, Store, GoIf, GoReg, Look, StopIf, Keep, Event, Invalid}
use Rattle.types.specs.Names.{most_instructions, most_commands, bundle_length, guest, top_kind, orders, no_arrow, answer, or_else, room_for}
use Rattle.spec.specs.Words.{guest_limits, has_stray, has_high, fields_refusal, word_refusal, refusal_at, first_refused, kind_of, v_of, fields_of, routine, bundles_for}
use Rattle.spec.specs.Bytes.{size_of, map_of, fields_at, decode_fields, decode_map, decode_one, then_answer, scan_of, count_of, read_answer, encode_one, bytes_of, write_answer}
use Rattle.spec.specs.Layouts.{right_layout}
use Rattle.spec.specs.Policies.{Policy, right_policy}
use Rattle.spec.specs.Landings.{right_landings}
use Rattle.spec.specs.Commands.{fetch_of, holds_of}
use Rattle.spec.specs.Bundles.{base_right, commands_of, command_count, base_room_answer, rewrite_answer, count_right, passes_at, check_from, check_answer}
use Rattle.spec.specs.Machines.{if_room, View, State, RunResult, fits, install_answer, reg_at, entry_of, is_landing, effect_of, with_pair, apply_of, view_at, next_of, ending_of, start_of, run_of}
use Rattle.spec.proofs.Bools.{cond_ind, unless-ind, both}
use Rattle.spec.proofs.Refusals.{taken_then}
use Rattle.spec.proofs.Bytes.{bit_le, length_fields, length_routine}
use Rattle.spec.proofs.Loops.{Loop, step_in, keeps, machine_loop}
use Rattle.spec.proofs.Masks.{sizes}
use Rattle.spec.proofs.Conditions.{length_bundles}

-- a routine has at most 2 bytes and 10 for each instruction
abbrev pub most_bytes : ℕ
most_bytes = 2 + 10 * most_instructions

-- ---- answers

-- the number fits a byte, the place is at most `most`, and at most `room` if nothing is refused
pub record Bounded (most room : ℕ) (a : Answer) : Type 0 where
  pub number : a.number < 2 ^ 8
  pub place : a.place ≤ most
  pub taken : a.number ≡ 0 → a.place ≤ room

widen : {m r m' r' : ℕ} {a : Answer} → m ≤ m' → r ≤ r' → Bounded m r a → Bounded m' r' a
widen h k b = record { number = b.number; place = omega (arith, b.place); taken = λ z. omega (arith, b.taken z) }

-- an answer at place 0
pub at_start : (m r x : ℕ) → x < 2 ^ 8 → Bounded m r (answer x 0)
at_start m r x h = record { number = h; place = omega arith; taken = λ _. omega arith }

-- the first answer or the second
pub or_else_lem : (m r : ℕ) (a b : Answer) → a.number < 2 ^ 8 → a.place ≤ m → (a.number ≡ 0 → Bounded m r b) → Bounded m r (or_else a b)
or_else_lem m r a b h p q =
    cond_ind (Bounded m r) (eqb a.number 0) (λ e. q (eqb-true _ _ e))
    (λ e. record { number = h; place = p; taken = λ z. absurd (eqb-false _ _ e z) })

-- success with k, if there is room
room_bound : (m r k : ℕ) → k ≤ m → Bounded m r (room_for r k)
room_bound m r k h =
    cond_ind (Bounded m r) (ltb r k) (λ _. at_start _ _ _ (lit< tt)) (λ f. record { number = lit< tt; place = h; taken = λ _. ltb-false _ _ f })

-- the first refusal among words, or the answer that follows them
pub first_bound : (judge : ℕ → ℕ) → ((w : ℕ) → judge w < 2 ^ 8)
    → (ws : List ℕ) (i m r : ℕ) (z : Answer) → i + length ws ≤ m → Bounded m r z → Bounded m r (first_refused judge ws i z)
unfolding first_refused
first_bound judge s [] i m r z h b = b
first_bound judge s (w ∷ ws) i m r z h b =
    cond_ind (Bounded m r) (eqb (judge w) 0) (λ _. first_bound judge s ws (i + 1) m r z (omega arith) b)
    (λ e. record { number = s w; place = omega arith; taken = λ y. absurd (eqb-false _ _ e y) })

-- ---- reading and writing

refusal_small : (x : Bool) (f : Fields) → fields_refusal x f < 2 ^ 8
unfolding fields_refusal
refusal_small x f =
    cond_ind (λ (n : ℕ). n < 2 ^ 8) (ltb top_kind f.kind) (λ _. lit< tt)
    (λ _. cond_ind (λ (n : ℕ). n < 2 ^ 8) (x || has_stray (guest_limits f.kind) f) (λ _. lit< tt)
    (λ _. cond_ind (λ (n : ℕ). n < 2 ^ 8) (has_high (guest_limits f.kind) f) (λ _. lit< tt) (λ _. lit< tt)))

abbrev SmallOne : Decoded → Type 0
SmallOne (Word w u) = Unit {0}
SmallOne (RefusedWith x) = x < 2 ^ 8

one_small : (s : List ℕ) → SmallOne (decode_one s)
unfolding decode_one decode_map decode_fields
one_small s =
    cond_ind SmallOne (eqb (length s) 0) (λ _. lit< tt)
    (λ _. cond_ind SmallOne (ltb 63 (get_or s 0 0)) (λ _. lit< tt)
    (λ _. cond_ind SmallOne (ltb (length s) (size_of (get_or s 0 0))) (λ _. lit< tt)
    (λ _. cond_ind SmallOne (eqb (fields_refusal (not (eqb (get_or s 0 0) (map_of (fields_at (get_or s 0 0) s)))) (fields_at (get_or s 0 0) s)) 0) (λ _. tt)
    (λ _. refusal_small _ _))))

-- a refusal's place, or i + n if n instructions are taken
scan_bound : (n i m : ℕ) (s : List ℕ) → i + n ≤ m → Bounded m m (scan_of n i s)
unfolding scan_of
scan_bound zero i m s h =
    cond_ind (Bounded m m) (eqb (length s) 0) (λ _. record { number = lit< tt; place = omega arith; taken = λ _. omega arith })
    (λ _. at_start _ _ _ (lit< tt))
scan_bound (suc n) i m s h = by (decode_one s) (one_small s) (λ u. scan_bound n (i + 1) m (drop u s) (omega arith))
  where
    by : (o : Decoded) → SmallOne o → ((u : ℕ) → Bounded m m (scan_of n (i + 1) (drop u s))) → Bounded m m (then_answer o i (λ u. scan_of n (i + 1) (drop u s)))
    by (Word w u) q go = go u
    by (RefusedWith x) q go = record { number = q; place = omega arith; taken = λ _. omega arith }

pub read_bound : (s : List ℕ) (room : ℕ) → Bounded most_instructions room (read_answer s room)
unfolding read_answer
read_bound s room =
    cond_ind (Bounded most_instructions room) (ltb (length s) 2) (λ _. at_start _ _ _ (lit< tt))
    (λ _. cond_ind (Bounded most_instructions room) (ltb most_instructions (count_of s)) (λ _. at_start _ _ _ (lit< tt))
    (λ e. cond_ind (Bounded most_instructions room) (ltb room (count_of s)) (λ _. at_start _ _ _ (lit< tt))
    (λ f. widen (ltb-false _ _ e) (ltb-false _ _ f) (scan_bound (count_of s) 0 (count_of s) (drop 2 s) (omega arith)))))

-- a map, five bytes and a number of four
ten_each : (n k d a b c v x r : ℕ) → k ≤ 1 → d ≤ 1 → a ≤ 1 → b ≤ 1 → c ≤ 1 → v ≤ 1 → x ≡ 1 + k + d + a + b + c + 4 * v → r ≤ 10 * n → x + r ≤ 10 * suc n
ten_each n k d a b c v x r lk ld la lb lc lv e l = omega arith

bytes_bound : (ws : List ℕ) → length (bytes_of ws) ≤ 10 * length ws
unfolding bytes_of
bytes_bound [] = omega arith
bytes_bound (w ∷ ws) =
    let f = fields_of w in
    subst (λ (x : ℕ). x ≤ 10 * suc (length ws)) (sym (length-append (encode_one w) (bytes_of ws)))
    (ten_each (length ws) _ _ _ _ _ _ _ _ (bit_le f.kind) (bit_le f.d) (bit_le f.a) (bit_le f.b) (bit_le f.c) (bit_le f.v) (length_fields f) (bytes_bound ws))

pub write_bound : (ws : List ℕ) (room : ℕ) → Bounded most_bytes room (write_answer ws room)
unfolding write_answer
write_bound ws room =
    cond_ind (Bounded most_bytes room) (ltb most_instructions (length ws)) (λ _. at_start _ _ _ (lit< tt))
    (λ e. let n : length ws ≤ most_instructions = ltb-false _ _ e in
    first_bound word_refusal (λ w. refusal_small _ _) ws 0 most_bytes room _ (omega arith)
    (room_bound _ _ _ (omega (arith, length_routine ws, bytes_bound ws))))

-- ---- rewriting and checking

pub refusal_at_small : (n w : ℕ) → refusal_at n w < 2 ^ 8
unfolding refusal_at
refusal_at_small n w =
    unless-ind (λ (x : ℕ). x < 2 ^ 8) (eqb (word_refusal w) 0) (λ _. refusal_small _ _)
    (λ _. cond_ind (λ (x : ℕ). x < 2 ^ 8) (eqb (kind_of w) guest.goif && ltb n (v_of w)) (λ _. lit< tt) (λ _. lit< tt))

-- at most 1,024 bundles
pub count_bound : (n : ℕ) → n ≤ most_instructions → command_count n ≤ most_commands
count_bound n h = omega (arith, (sizes n h).most)

pub length_commands : (lay : Layout) (ws : List ℕ) → length (commands_of lay ws) ≡ command_count (length ws)
length_commands lay ws = length_bundles lay (bundles_for (length ws)) (routine ws) 0 (bundles_for (length ws))

pub rewrite_bound : (lay : Layout) (ws : List ℕ) (room : ℕ) → Bounded most_commands room (rewrite_answer lay ws room)
unfolding rewrite_answer base_room_answer
rewrite_bound lay ws room =
    unless-ind (Bounded most_commands room) (right_layout lay) (λ _. at_start _ _ _ (lit< tt))
    (λ _. cond_ind (Bounded most_commands room) (ltb most_instructions (length ws)) (λ _. at_start _ _ _ (lit< tt))
    (λ e. let n : length ws ≤ most_instructions = ltb-false _ _ e in
    first_bound (refusal_at (length ws)) (refusal_at_small (length ws)) ws 0 most_commands room _ (omega arith)
    (unless-ind (Bounded most_commands room) (base_right lay (bundles_for (length ws))) (λ _. at_start _ _ _ (lit< tt))
    (λ _. room_bound _ _ _ (count_bound (length ws) n)))))

-- if rewriting is taken, 4N commands are written
pub rewrite_taken : (lay : Layout) (ws : List ℕ) (room : ℕ) → (rewrite_answer lay ws room).number ≡ 0 → rewrite_answer lay ws room ≡ answer 0 (command_count (length ws))
unfolding rewrite_answer base_room_answer
rewrite_taken lay ws room =
    let a = answer 0 (command_count (length ws)) in
    let T : Answer → Type 0 = λ b. b.number ≡ 0 → b ≡ a in
    unless-ind T (right_layout lay) (λ _ z. absurd (omega arith))
    (λ _. cond_ind T (ltb most_instructions (length ws)) (λ _ z. absurd (omega arith))
    (λ _. taken_then (refusal_at (length ws)) (λ b. b ≡ a) ws 0 _
    (unless-ind T (base_right lay (bundles_for (length ws))) (λ _ z. absurd (omega arith))
    (λ _. cond_ind T (ltb room (command_count (length ws))) (λ _ z. absurd (omega arith)) (λ _ _. refl)))))

check_from_bound : (lay : Layout) (n : ℕ) (ws : List ℕ) (h m top : ℕ) → h + m ≤ top + 1 → Bounded top 0 (check_from lay n ws h m)
unfolding check_from
check_from_bound lay n ws h zero top k = at_start _ _ _ (lit< tt)
check_from_bound lay n ws h (suc m) top k =
    cond_ind (Bounded top 0) (passes_at lay n ws h) (λ _. check_from_bound lay n ws (h + 1) m top (omega arith))
    (λ _. record { number = lit< tt; place = omega arith; taken = λ z. omega arith })

pub check_bound : (lay : Layout) (ws : List ℕ) → Bounded most_instructions 0 (check_answer lay ws)
unfolding check_answer
check_bound lay ws =
    unless-ind (Bounded most_instructions 0) (right_layout lay) (λ _. at_start _ _ _ (lit< tt))
    (λ _. unless-ind (Bounded most_instructions 0) (count_right (length ws)) (λ _. at_start _ _ _ (lit< tt))
    (λ e. let l : length ws ≤ most_commands = leb-true _ _ (both _ _ (both _ _ e).0).0 in
    unless-ind (Bounded most_instructions 0) (base_right lay (length ws / bundle_length)) (λ _. at_start _ _ _ (lit< tt))
    (λ _. check_from_bound lay (length ws / bundle_length) ws 0 (length ws / bundle_length) most_instructions (omega arith))))

-- ---- installing

pub install_bound : (lay : Layout) (pol : Policy) (mem : List ℕ) → Bounded 0 0 (install_answer lay pol mem)
unfolding install_answer
install_bound lay pol mem =
    unless-ind (Bounded 0 0) (fits lay mem) (λ _. at_start _ _ _ (lit< tt))
    (λ _. unless-ind (Bounded 0 0) (right_policy lay pol) (λ _. at_start _ _ _ (lit< tt))
    (λ _. unless-ind (Bounded 0 0) (right_landings pol.landings) (λ _. at_start _ _ _ (lit< tt)) (λ _. at_start _ _ _ (lit< tt))))

-- ---- a run

-- an event passes only with two free log cells, a reading event only with a reading left
abbrev pub Room : ℕ → ℕ → Effect → Type 0
Room free left (Go to) = Unit {0}
Room free left (SetReg d x) = Unit {0}
Room free left (SetCell i x) = Unit {0}
Room free left (Order v) = 2 ≤ free
Room free left (Probe v) = (2 ≤ free) × (1 ≤ left) × (orders ≤ v)
Room free left (End t) = Unit {0}
Room free left (Wait e) = Unit {0}

in_room : (free left : ℕ) (e : Effect) → (2 ≤ free → Room free left e) → Room free left (if_room free e)
in_room free left e r = cond_ind (Room free left) (ltb free 2) (λ _. tt) (λ f. r (ltb-false _ _ f))

pub room : (c : Command) (s : View) → Room s.free s.left (effect_of c s)
unfolding effect_of
room Nop s = tt
room Halt s = tt
room (Plain k d a b v) s = tt
room (Load d a) s = cond_ind (Room s.free s.left) (ltb (reg_at s a) (length s.mem)) (λ _. tt) (λ _. tt)
room (Store a b) s = cond_ind (Room s.free s.left) (ltb (reg_at s a) (length s.mem)) (λ _. tt) (λ _. tt)
room (GoIf a b c v) s = tt
room (GoReg d a b c) s =
    cond_ind (Room s.free s.left) (holds_of c (reg_at s a) (reg_at s b))
    (λ _. cond_ind (Room s.free s.left) (is_landing s.mem s.base s.landings (reg_at s d)) (λ _. tt) (λ _. tt)) (λ _. tt)
room (Look d v) s =
    cond_ind (Room s.free s.left) (ltb s.cell (length s.mem))
    (λ _. cond_ind (Room s.free s.left) (ltb (entry_of s v) (length s.mem)) (λ _. tt) (λ _. tt)) (λ _. tt)
room (StopIf d) s = cond_ind (Room s.free s.left) (eqb (reg_at s d) no_arrow) (λ _. tt) (λ _. tt)
room (Keep d) s = cond_ind (Room s.free s.left) (ltb s.cell (length s.mem)) (λ _. tt) (λ _. tt)
room (Event v) s =
    cond_ind (Room s.free s.left) (ltb v orders) (λ _. in_room s.free s.left (Order v) (λ f. f))
    (λ o. cond_ind (Room s.free s.left) (eqb s.left 0) (λ _. tt) (λ e. in_room s.free s.left (Probe v) (λ f. (f, omega (arith, eqb-false s.left 0 e), ltb-false _ _ o))))
room Invalid s = tt

-- a state has at most p pairs and u readings used; its log is as long as l and equals l beyond the pairs; the readings are in rd
pub record Counted (l rd : List ℕ) (p u : ℕ) (s : State) : Type 0 where
  pub log : length s.log ≡ length l
  pub pairs : s.pairs ≤ p
  pub used : s.used ≤ u
  pub drawn : s.used ≤ length rd
  pub room : 2 * s.pairs ≤ length l
  pub rest : (i : ℕ) → 2 * s.pairs ≤ i → get_or s.log i 0 ≡ get_or l i 0

-- writing a pair keeps the rest of the log
pair_rest : (l log : List ℕ) (n e x : ℕ) → ((i : ℕ) → 2 * n ≤ i → get_or log i 0 ≡ get_or l i 0) → (i : ℕ) → 2 * (n + 1) ≤ i → get_or (with_pair log n e x) i 0 ≡ get_or l i 0
pair_rest l log n e x h i m =
    get_or-set_other (set log (2 * n) e) (2 * n + 1) i x 0 (λ z. omega arith) ∙ get_or-set_other log (2 * n) i e 0 (λ z. omega arith) ∙ h i (omega arith)

-- one step adds at most one pair and one reading
pub step_counts : (caps l : List ℕ) (p u : ℕ) (rd : List ℕ) (e : Effect) (s : State) → Counted l rd p u s
    → Room (length s.log - 2 * s.pairs) (length rd - s.used) e → Counted l rd (p + 1) (u + 1) (apply_of caps rd e s)
unfolding apply_of
step_counts caps l p u rd (Go to) s b r = record { log = b.log; pairs = omega arith; used = omega arith; drawn = b.drawn; room = b.room; rest = b.rest }
step_counts caps l p u rd (SetReg d x) s b r = record { log = b.log; pairs = omega arith; used = omega arith; drawn = b.drawn; room = b.room; rest = b.rest }
step_counts caps l p u rd (SetCell i x) s b r = record { log = b.log; pairs = omega arith; used = omega arith; drawn = b.drawn; room = b.room; rest = b.rest }
step_counts caps l p u rd (Order v) s b r =
    record { log = simp length-set b.log; pairs = omega arith; used = omega arith; drawn = b.drawn; room = omega (arith, b.log); rest = pair_rest l s.log s.pairs v _ b.rest }
step_counts caps l p u rd (Probe v) s b r =
    record { log = simp length-set b.log; pairs = omega arith; used = omega arith; drawn = omega arith; room = omega (arith, b.log); rest = pair_rest l s.log s.pairs v _ b.rest }
step_counts caps l p u rd (End t) s b r = record { log = b.log; pairs = omega arith; used = omega arith; drawn = b.drawn; room = b.room; rest = b.rest }
step_counts caps l p u rd (Wait e) s b r = record { log = b.log; pairs = omega arith; used = omega arith; drawn = b.drawn; room = b.room; rest = b.rest }

-- a step keeps the pairs within the log, the readings within rd, and the number of registers
pub apply_bounds : (caps rd : List ℕ) (e : Effect) (s : State) → Room (length s.log - 2 * s.pairs) (length rd - s.used) e → 2 * s.pairs ≤ length s.log → s.used ≤ length rd
    → let t = apply_of caps rd e s in (2 * t.pairs ≤ length t.log) × (t.used ≤ length rd)
apply_bounds caps rd e s r p u =
    let c = step_counts caps s.log s.pairs s.used rd e s (record { log = refl; pairs = omega arith; used = omega arith; drawn = u; room = p; rest = λ i h. refl }) r in
    (omega (arith, c.room, c.log), c.drawn)

pub apply_regs : (caps rd : List ℕ) (e : Effect) (s : State) → length (apply_of caps rd e s).regs ≡ length s.regs
unfolding apply_of
apply_regs caps rd (Go to) s = refl
apply_regs caps rd (SetReg d x) s = length-set s.regs d x
apply_regs caps rd (SetCell i x) s = refl
apply_regs caps rd (Order v) s = refl
apply_regs caps rd (Probe v) s = length-set s.regs 0 (get_or rd s.used 0)
apply_regs caps rd (End t) s = refl
apply_regs caps rd (Wait e) s = refl

-- a run has at most n steps, pairs and readings; its log is as long as l and equals l beyond the pairs; the readings are in rd
pub record Tally (l rd : List ℕ) (n k p u : ℕ) (log' : List ℕ) : Type 0 where
  pub steps : k ≤ n
  pub pairs : p ≤ n
  pub used : u ≤ n
  pub drawn : u ≤ length rd
  pub room : 2 * p ≤ length l
  pub log : length log' ≡ length l
  pub rest : (i : ℕ) → 2 * p ≤ i → get_or log' i 0 ≡ get_or l i 0

abbrev pub RunCounts : List ℕ → List ℕ → ℕ → RunResult → Type 0
RunCounts l rd n r = Tally l rd n r.outcome.answer.steps r.outcome.answer.pairs r.outcome.answer.used r.log

-- within a run of at most n steps, with m of them left
abbrev pub Counting : List ℕ → List ℕ → ℕ → ℕ → ℕ → State → Type 0
Counting l rd n m k s = (k + m ≤ n) × Counted l rd k k s

pub ended_counts : (l rd : List ℕ) (n m k : ℕ) (s : State) → Counting l rd n m k s → Tally l rd n k s.pairs s.used s.log
ended_counts l rd n m k s (h, b) = record { steps = omega arith; pairs = omega arith; used = omega arith; drawn = b.drawn; room = b.room; log = b.log; rest = b.rest }

pub at_first : (rd log : List ℕ) (n : ℕ) (s : State) → s.log ≡ log → s.pairs ≡ 0 → s.used ≡ 0 → Counting log rd n n 0 s
at_first rd log n s e p u =
    (omega arith, record { log = ap length e; pairs = omega arith; used = omega arith; drawn = omega arith; room = omega arith; rest = λ i h. ap (λ (x : List ℕ). get_or x i 0) e })

-- so does any loop whose steps do
pub loop_counts : {R : Type 0} (a : Loop ℕ R) (l rd : List ℕ) (n : ℕ) (P : R → Type 0)
    → ((s : State) (k : ℕ) → a.tick s k ≡ k + 1)
    → ((k : ℕ) (s : State) → Counted l rd k k s → Counted l rd (k + 1) (k + 1) (step_in a s))
    → ((e : Ending) (m k : ℕ) (s : State) → Counting l rd n m k s → P (a.ends e k s))
    → (m k : ℕ) (s : State) → Counting l rd n m k s → P (a.from m k s)
loop_counts a l rd n P one step ends =
    keeps a (Counting l rd n) P (λ m k s i o. ends (ending_of s.status) m k s i) (λ m k s i r w z. ends w (suc m) k s i)
    (λ m k s i r g. subst (λ (x : ℕ). Counting l rd n m x (step_in a s)) (sym (one s k)) (omega (arith, i.0), step k s i.1))

pub run_counts : (lay : Layout) (ws : List ℕ) (m : Machine) (mem : List ℕ) (budget : ℕ) (rd log : List ℕ) → RunCounts log rd budget (run_of lay ws m mem budget rd log)
unfolding run_of
run_counts lay ws m mem budget rd log =
    cond_ind (RunCounts log rd budget) (fits lay mem)
    (λ _. loop_counts (machine_loop lay ws rd) log rd budget (RunCounts log rd budget) (λ s k. refl)
    (λ k s b. step_counts lay.ceilings log k k rd (next_of lay ws rd s) s b (room (fetch_of ws lay.base s.pc) (view_at lay rd s)))
    (λ e m k s. ended_counts log rd budget m k s) budget 0 (start_of m mem log) (at_first rd log budget (start_of m mem log) refl refl refl))
    (λ _. record { steps = omega arith; pairs = omega arith; used = omega arith; drawn = omega arith; room = omega arith; log = refl; rest = λ i h. refl })
