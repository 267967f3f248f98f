-- The cases marked * of document 01's sample tray, as request [1] left them, as rows of one table. Request [6] adds r14 and r15 in bytes.
use Rattle.std.specs.Prelude.{ℕ, ◌+◌, ◌-◌, ◌^◌, ◌≡◌, Bool, true, false, ◌&&◌, List, [], ◌∷◌, length, set, replicate, eqb}
use Rattle.std.specs.Bool.{beq}
use Rattle.types.specs.declared.Layout.{Layout}
use Rattle.types.specs.declared.Answer.{Answer}
use Rattle.types.specs.declared.Outcome.{Outcome}
use Rattle.types.specs.declared.Status.TheVariants.{Running}
use Rattle.types.specs.Names.{most_instructions, bundle_length, registers, events, orders, top_word, guest, command, ending_number}
use Rattle.spec.specs.Layouts.{right_layout, mask_of}
use Rattle.types.specs.Records.{layout_of, machine_of}
use Rattle.spec.specs.Policies.{policy_of}
use Rattle.spec.specs.Words.{pack_of, bundles_for}
use Rattle.spec.specs.Bytes.{read_answer, write_output}
use Rattle.spec.specs.Commands.{plain_of, holds_of}
use Rattle.spec.specs.Bundles.{rewrite_answer, check_answer, commands_of}
use Rattle.spec.specs.Machines.{install_memory, run_of}

pub data Row : Type 0 where
  masks : (sl sh e r : ℕ) → Row  -- address e masks to r
  rightness : (l : Layout) (r : Bool) → Row  -- whether the layout is right
  checks : (l : Layout) (ws : List ℕ) (r place : ℕ) → Row  -- checking's number and place
  rewrites : (l : Layout) (ws : List ℕ) (room r place : ℕ) → Row  -- rewriting's number and place
  reaches : (l : Layout) (x e r : ℕ) → Row  -- ending and pc after the four commands of GOX r0 in a routine of seven instructions, with x in r0 and landing 3
  computes : (k x v r : ℕ) → Row  -- what a plain command puts into rd
  holds : (c x y : ℕ) (r : Bool) → Row  -- condition c
  writes : (w : ℕ) (bytes : List ℕ) → Row  -- what writing a word leaves after its count
  reads : (bytes : List ℕ) (r place : ℕ) → Row  -- reading's number and place
  sizes : (n r : ℕ) → Row  -- N from n

abbrev pub same_list : List ℕ → List ℕ → Bool
same_list [] [] = true
same_list [] (y ∷ ys) = false
same_list (x ∷ xs) [] = false
same_list (x ∷ xs) (y ∷ ys) = eqb x y && same_list xs ys

abbrev pub answers_as : Answer → ℕ → ℕ → Bool
answers_as a r place = eqb a.number r && eqb a.place place

-- ceilings that limit nothing: '4,294,967,295 for all eight'
abbrev pub no_limits : List ℕ
no_limits = replicate orders top_word

-- U 64, SL 8, SH 15, M 0, P 16, S 1, Q 32 and a base
abbrev pub small_layout : ℕ → Layout
small_layout b = layout_of 64 8 15 0 16 1 b 32 no_limits

-- GOX r0, always; then HALTs, up to seven instructions
abbrev pub gox_routine : List ℕ
gox_routine = pack_of guest.gox 0 0 0 0 0 ∷ replicate 6 0

-- after the GOX bundle, in the memory that installing leaves, with landing 3 only
abbrev pub reached : Layout → ℕ → Outcome
reached l x =
    (run_of l (commands_of l gox_routine) (machine_of (set (replicate registers 0) 0 x) l.base Running)
    (install_memory l (policy_of 1 0 (replicate events 0) (3 ∷ [])) (replicate l.size 0)) bundle_length [] []).outcome

abbrev pub row_holds : Row → Bool
row_holds (masks sl sh e r) = eqb (mask_of sl sh e) r
row_holds (rightness l r) = beq (right_layout l) r
row_holds (checks l ws r place) = answers_as (check_answer l ws) r place
row_holds (rewrites l ws room r place) = answers_as (rewrite_answer l ws room) r place
row_holds (reaches l x e r) = eqb (ending_number (reached l x).answer.ending) e && eqb (reached l x).machine.pc r
row_holds (computes k x v r) = eqb (plain_of k x 0 v) r
row_holds (holds c x y r) = beq (holds_of c x y) r
row_holds (writes w bytes) = same_list (write_output (w ∷ []) (replicate (2 + length bytes) 0)) (1 ∷ 0 ∷ bytes)
row_holds (reads bytes r place) = answers_as (read_answer bytes most_instructions) r place
row_holds (sizes n r) = eqb (bundles_for n) r

abbrev pub all_hold : List Row → Bool
all_hold [] = true
all_hold (r ∷ rs) = row_holds r && all_hold rs

abbrev pub rows : List Row
rows =
    masks 256 511 5 261
    ∷ masks 256 511 416 416
    ∷ masks 256 511 768 256
    ∷ masks 256 511 4294967295 511
    ∷ masks 7 7 0 7
    ∷ checks (layout_of 64 6 9 0 16 1 0 32 no_limits) (1 ∷ 0 ∷ 0 ∷ 0 ∷ []) 7 0
    ∷ masks 6 9 9 15
    ∷ rightness (small_layout 0) true
    ∷ checks (small_layout 0) (1 ∷ 0 ∷ 0 ∷ 0 ∷ []) 0 0
    ∷ rightness (layout_of 64 8 13 0 16 1 0 32 no_limits) false
    ∷ reaches (small_layout 32) 3 25 44
    ∷ reaches (small_layout 32) 11 25 44
    ∷ reaches (small_layout 32) 0x40000003 25 44
    ∷ reaches (small_layout 32) 4 26 35
    ∷ rewrites (small_layout 16) gox_routine 32 13 0
    ∷ checks (small_layout 16) (commands_of (small_layout 32) gox_routine) 13 0
    ∷ computes command.sar (2 ^ 32 - 7) 1 (2 ^ 32 - 4)
    ∷ computes command.sar (2 ^ 31) 31 (2 ^ 32 - 1)
    ∷ holds 3 (2 ^ 32 - 1) 0 true
    ∷ holds 2 (2 ^ 32 - 1) 0 false
    ∷ writes (pack_of guest.set 1 0 0 0 200) (0x23 ∷ 0x01 ∷ 0x01 ∷ 0xC8 ∷ 0x00 ∷ 0x00 ∷ 0x00 ∷ [])
    ∷ writes (pack_of guest.set 0 0 0 0 0) (0x01 ∷ 0x01 ∷ [])
    ∷ reads (1 ∷ 0 ∷ 0x23 ∷ 0x01 ∷ 0x01 ∷ 0x00 ∷ 0x00 ∷ 0x00 ∷ 0x00 ∷ []) 2 0
    ∷ writes (pack_of guest.set 14 0 0 0 200) (0x23 ∷ 0x01 ∷ 0x0E ∷ 0xC8 ∷ 0x00 ∷ 0x00 ∷ 0x00 ∷ [])
    ∷ reads (1 ∷ 0 ∷ 0x23 ∷ 0x01 ∷ 0x0E ∷ 0xC8 ∷ 0x00 ∷ 0x00 ∷ 0x00 ∷ []) 0 1
    ∷ reads (1 ∷ 0 ∷ 0x23 ∷ 0x01 ∷ 0x0F ∷ 0xC8 ∷ 0x00 ∷ 0x00 ∷ 0x00 ∷ []) 4 0
    ∷ sizes 0 1
    ∷ rewrites (small_layout 32) [] 4 0 4
    ∷ sizes 255 256
    ∷ sizes 256 512
    ∷ []

-- every row holds
abbrev pub TrayHolds : Type 0
TrayHolds = all_hold rows ≡ true
