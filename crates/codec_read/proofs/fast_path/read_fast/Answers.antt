use native.Mathlib.Omega.{arith}
use borrow.Author.Rules.{rules}
use lib.ListN.{get_or}
use Rattle.spec.specs.Bytes.{quad_at}
use Rattle.codec_read.proofs.fast_path.Reading.{part_is, fast_word}
use Rattle.codec_read.proofs.fast_path.read_fast.Goals as goal

pub returns-then-fits-is_instruction : goal.returns-then-fits-is_instruction
returns-then-fits-is_instruction c =
    let s = c.args.s.now in
    let kind-part = part_is c.bit.result 1 1 (get_or s 1 0) c.in_ok-kind.kind c.in_ok-kind.d_at (omega arith) c.in_ok-kind.ensures.absent (search (c.in_ok-kind.ensures.present, rules)) in
    let d-part = part_is c.bit-2.result c.in_ok-kind.d_at 1 (get_or s c.in_ok-kind.d_at 0) c.in_ok-d.d c.in_ok-d.a_at (omega arith) c.in_ok-d.ensures.absent (search (c.in_ok-d.ensures.present, rules)) in
    let a-part = part_is c.bit-3.result c.in_ok-d.a_at 1 (get_or s c.in_ok-d.a_at 0) c.in_ok-a.a c.in_ok-a.b_at (omega arith) c.in_ok-a.ensures.absent (search (c.in_ok-a.ensures.present, rules)) in
    let b-part = part_is c.bit-4.result c.in_ok-a.b_at 1 (get_or s c.in_ok-a.b_at 0) c.in_ok-b.b c.in_ok-b.c_at (omega arith) c.in_ok-b.ensures.absent (search (c.in_ok-b.ensures.present, rules)) in
    let c-part = part_is c.bit-5.result c.in_ok-b.c_at 1 (get_or s c.in_ok-b.c_at 0) c.in_ok-c.c c.in_ok-c.v_at (omega arith) c.in_ok-c.ensures.absent (search (c.in_ok-c.ensures.present, rules)) in
    let v-part = part_is c.bit-6.result c.in_ok-c.v_at 4 (quad_at 1 s c.in_ok-c.v_at) c.in_ok-v.v c.in_ok-v.end (omega arith) c.in_ok-v.ensures.absent (search (c.in_ok-v.ensures.present, rules)) in
    fast_word s c.if-s-lt-MOST_BYTES.false c.from-m.result c.from-m.ensures c.if-m-gt-TOP_MAP.false _ _ _ _ _ _ (omega arith) (omega arith) (omega arith) (omega arith) (omega arith) (omega arith) _ _ _ _ _ _ _ _ _ _ _ _
    kind-part d-part a-part b-part c-part v-part (search rules) _ c.join-w.ensures _ c.is_instruction.ensures c.if-fits-is_instruction.true
