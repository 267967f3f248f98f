-- Laws of the fast path, in the form that the functions' proofs cite.
use mathlib.Core.Path.{◌≡◌, refl, sym, ap, ◌∙◌}
use mathlib.Core.Bool.{Bool, true, ◌&&◌, not, cond}
use mathlib.Core.List.{List}
use Prim.Native.Nat.{ℕ, zero, suc, ◌+◌, ◌*◌, ◌/◌, ◌%◌, ◌^◌, ◌≤◌, ◌<◌}
use native.Mathlib.Omega.{arith}
use lib.ListN.{length, get_or}
use lib.Dec.{ltb, eqb}
use borrow.Author.Tests.{eq-eqb, eqb-true, ltb-true}
use Rattle.std.proofs.Common.{Option, Some}
use Rattle.std.proofs.lemmas.Option.{some_pair_parts}
use Rattle.types.specs.declared.Fields.{Fields}
use Rattle.types.specs.Results.{Word}
use Rattle.spec.specs.Words.{fields_refusal, word_refusal, pack_fields}
use Rattle.spec.specs.Bytes.{bit_of, byte_at, quad_at, fields_at, map_of, size_of, decode_one}
use Rattle.spec.proofs.Bytes.{one_fields, fields_word}
use Rattle.spec.proofs.Bools.{both}
use Rattle.spec.proofs.WordLaws.{bits_pack}
use Rattle.codec_read.specs.fast_path.Parts.{longest, FieldsFit}
use Rattle.codec_read.proofs.full_path.Reading.{fields_read}

-- a field that was read: its value x, which is 0 if it is absent and never else, and the index `next` after it
pub record IsPart (bit at size present x next : ℕ) : Type 0 where
  pub value : x ≡ cond (eqb bit 0) 0 present
  pub after : next ≡ at + size * bit
  pub mark : bit_of x ≡ bit

pub part_is : (bit at size present x next : ℕ) → bit ≤ 1 → (bit ≡ 0 → ◌≡◌ {A = Option (ℕ × ℕ)} (Some (x, next)) (Some (0, at)))
    → ((bit ≡ 0 → ⊥) → (x ≡ present) × (x ≡ 0 → ⊥) × (next ≡ at + size)) → IsPart bit at size present x next
part_is zero at size present x next h none some =
    let e = some_pair_parts x 0 next at (none refl) in
    let ex : x ≡ 0 = e.0 in
    let en : next ≡ at = e.1 in
    record { value = ex; after = omega arith; mark = omega arith }
part_is (suc zero) at size present x next h none some =
    let e = some (λ (z : ◌≡◌ {A = ℕ} 1 0). absurd (omega arith)) in
    let ex : x ≡ present = e.0 in
    let n : x ≡ 0 → ⊥ = e.1 in
    let en : next ≡ at + size = e.2 in
    record { value = ex; after = omega arith; mark = omega arith }
part_is (suc (suc b)) at size present x next h none some = absurd (omega arith)

size_most : (m : ℕ) → m ≤ 63 → size_of m ≤ longest
size_most m h = omega arith

-- the six fields in order, with their bits of the map m
module _ (s : List ℕ) (long : longest ≤ length s) (m : ℕ) (em : m ≡ get_or s 0 0) (small : m ≤ 63)
    (p q r t x y : ℕ) (ep : p ≡ m % 2) (eq : q ≡ m / 2 % 2) (er : r ≡ m / 4 % 2) (et : t ≡ m / 8 % 2) (ex : x ≡ m / 16 % 2) (ey : y ≡ m / 32 % 2)
    (k d_at d a_at a b_at b c_at c v_at v end : ℕ) (pk : IsPart p 1 1 (get_or s 1 0) k d_at) (pd : IsPart q d_at 1 (get_or s d_at 0) d a_at)
    (pa : IsPart r a_at 1 (get_or s a_at 0) a b_at) (pb : IsPart t b_at 1 (get_or s b_at 0) b c_at)
    (pc : IsPart x c_at 1 (get_or s c_at 0) c v_at) (pv : IsPart y v_at 4 (quad_at 1 s v_at) v end) where
  abbrev read : Fields
  read = record { kind = k; d = d; a = a; b = b; c = c; v = v }

  read_is : read ≡ fields_at m s
  unfolding byte_at quad_at
  read_is =
      let small' : m < 64 = omega arith in
      let ed : d_at ≡ 1 + p = omega arith in
      let ea : a_at ≡ 1 + p + q = omega arith in
      let eb : b_at ≡ 1 + p + q + r = omega arith in
      let ec : c_at ≡ 1 + p + q + r + t = omega arith in
      let ev : v_at ≡ 1 + p + q + r + t + x = omega arith in
      fields_read m s small' p q r t x y ep eq er et ex ey k d a b c v
      pk.value (pd.value ∙ rw ed) (pa.value ∙ rw ea) (pb.value ∙ rw eb) (pc.value ∙ rw ec) (pv.value ∙ rw ev)

  map_is : m ≡ map_of read
  map_is = omega (arith, pk.mark, pd.mark, pa.mark, pb.mark, pc.mark, pv.mark)

  end_is : end ≡ size_of m
  end_is = omega (arith, pk.after, pd.after, pa.after, pb.after, pc.after, pv.after)

  pub fast_word : FieldsFit read → (w : ℕ) → w ≡ pack_fields read
      → (j : Bool) → j ≡ eqb (word_refusal w) 0 → ((ltb d 16 && ltb a 16 && ltb b 16 && ltb c 16) && j) ≡ true → Word w end ≡ decode_one s
  fast_word fit w ew j ej h =
      let t₃ = both (ltb d 16 && ltb a 16 && ltb b 16 && ltb c 16) j h in
      let t₂ = both _ _ t₃.0 in
      let t₁ = both _ _ t₂.0 in
      let t₀ = both _ _ t₁.0 in
      let hk : k < 2 ^ 8 = fit.kind in
      let hd : d < 2 ^ 4 = ltb-true d 16 t₀.0 in
      let ha : a < 2 ^ 4 = ltb-true a 16 t₀.1 in
      let hb : b < 2 ^ 4 = ltb-true b 16 t₁.1 in
      let hc : c < 2 ^ 4 = ltb-true c 16 t₂.1 in
      let back = bits_pack read (hk, hd, ha, hb, hc) in
      let judged : 0 ≡ fields_refusal (not (eqb m (map_of read))) read =
      sym (eqb-true (word_refusal w) 0 (sym ej ∙ t₃.1)) ∙ ap word_refusal ew ∙ rw (back.1, back.0, eq-eqb m (map_of read) map_is) in
      one_fields s m em (λ (z : length s ≡ 0). omega arith) read read_is end end_is small (omega (arith, size_most m small, end_is)) (Word w end)
      (fields_word m read (map_of read) refl 0 judged refl w end ew end_is)
