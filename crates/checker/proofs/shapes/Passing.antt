-- Laws of a bundle, by the kind of its first word.
use mathlib.Core.Path.{◌≡◌, refl, sym, ◌∙◌, ap}
use mathlib.Core.Bool.{Bool, true, false, ◌&&◌, ◌||◌, and-true, and-false, cond}
use Prim.Native.Nat.{ℕ, ◌-◌, ◌^◌, ◌≤◌, ◌<◌}
use native.Mathlib.Omega.{arith}
use lib.Dec.{leb, eqb}
use borrow.Author.Tests.{ne_eqb, eqb-true, eqb-false, leb-true, leb-false, lt-leb}
use Rattle.types.specs.declared.Layout.{Layout}
use Rattle.types.specs.declared.Instr.{Instr}
use Rattle.types.specs.declared.Instr.TheVariants.{HALT, PLAIN, LOAD, STORE, GOIF, GOX, EVENT}
use Rattle.types.specs.Names.{guest, command, plain_step}
use Rattle.spec.specs.Words.{kind_of, d_of, a_of, b_of, c_of, v_of}
use Rattle.spec.specs.Commands.{word_of}
use Rattle.spec.specs.Bundles.{shape_of, valid, decode_bundle, is_bundle}
use Rattle.spec.proofs.Bools.{both}
use Rattle.checker.specs.single.Single.{single_words, plain_words, bundle_index, goif_words}
use Rattle.checker.specs.masked_access.MaskedAccess.{access_of}
use Rattle.checker.specs.event.Event.{event_words}
use Rattle.checker.specs.shapes.FourWords.{passes_of}
use Rattle.checker.proofs.shapes.Shapes.{plain_is, goif_is}

-- LOAD and STORE do not depend on the number of bundles
any_count : (l : Layout) (n w x y z d a b : ℕ) (t : Bool) → is_bundle l 0 (cond t (LOAD d a) (STORE a b)) w x y z ≡ is_bundle l n (cond t (LOAD d a) (STORE a b)) w x y z
unfolding is_bundle valid shape_of
any_count l n w x y z d a b true = refl
any_count l n w x y z d a b false = refl

module _ (l : Layout) (n w x y z : ℕ) where
  halt_is : single_words w x y z command.halt ≡ is_bundle l n HALT w x y z
  unfolding is_bundle valid shape_of word_of
  halt_is = refl

  event_is : event_words w x y z ≡ is_bundle l n (EVENT (v_of w)) w x y z
  unfolding is_bundle valid shape_of word_of
  event_is = refl

  off_halt : kind_of w ≡ command.halt → HALT ≡ decode_bundle l w y z
  unfolding decode_bundle
  off_halt k = rw k

  off_plain : (kind_of w ≡ command.halt → ⊥) → (kind_of w ≡ command.andi → ⊥) → (kind_of w ≡ command.goif → ⊥) → (kind_of w ≡ command.shl → ⊥) → (kind_of w ≡ command.look → ⊥)
      → PLAIN (kind_of w - plain_step) (d_of w) (a_of w) (b_of w) (v_of w) ≡ decode_bundle l w y z
  unfolding decode_bundle
  off_plain a b c d f =
      rw (ne_eqb (kind_of w) command.halt a, ne_eqb (kind_of w) command.andi b, ne_eqb (kind_of w) command.goif c, ne_eqb (kind_of w) command.shl d, ne_eqb (kind_of w) command.look f)

  -- ---- the last bundle

  module _ (m : Bool) where
    pub last_is : m ≡ false → (r : Bool) → r ≡ single_words w x y z command.halt → r ≡ passes_of l n w x y z m
    last_is em r er = er ∙ rw em (go (eqb (kind_of w) command.halt) refl)
      where
        go : (t : Bool) → eqb (kind_of w) command.halt ≡ t → single_words w x y z command.halt ≡ (is_bundle l n (decode_bundle l w y z) w x y z && eqb (kind_of w) command.halt)
        go true e = rw (e, ← (off_halt (eqb-true _ _ e))) (halt_is ∙ sym (and-true (is_bundle l n HALT w x y z)))
        go false e =
            rw (e, ne_eqb w command.halt (λ (q : w ≡ command.halt). eqb-false _ _ e (ap (λ (v : ℕ). kind_of v) q)))
            (sym (and-false (is_bundle l n (decode_bundle l w y z) w x y z)))

    -- ---- those before it, by the kind of the first word

    module _ (k : ℕ) (ek : k ≡ kind_of w) where
      module _ (em : m ≡ true) (r : Bool) where
        passing : (i : Instr) → i ≡ decode_bundle l w y z → r ≡ is_bundle l n i w x y z → r ≡ passes_of l n w x y z m
        passing i ei er = rw (em, and-true (is_bundle l n (decode_bundle l w y z) w x y z), ← ei) er

        pub pass_halt : k ≡ command.halt → r ≡ single_words w x y z command.halt → r ≡ passes_of l n w x y z m
        pass_halt e er = passing HALT (off_halt (sym ek ∙ e)) (er ∙ halt_is)

        pub pass_plain : (leb command.set k && leb k command.sar) ≡ true → r ≡ plain_words w x y z → r ≡ passes_of l n w x y z m
        pass_plain t er =
            let h = both (leb command.set k) (leb k command.sar) t in
            let lo : command.set ≤ k = leb-true _ _ h.0 in
            let hi : k ≤ command.sar = leb-true _ _ h.1 in
            passing (PLAIN (kind_of w - plain_step) (d_of w) (a_of w) (b_of w) (v_of w))
            (off_plain (λ (e : kind_of w ≡ command.halt). omega arith) (λ (e : kind_of w ≡ command.andi). omega arith) (λ (e : kind_of w
            ≡ command.goif). omega arith) (λ (e : kind_of w ≡ command.shl). omega arith) (λ (e : kind_of w ≡ command.look). omega arith))
            (er ∙ plain_is n w (omega arith) (omega arith) l x y z)

        pub pass_access : k ≡ command.andi → r ≡ is_bundle l 0 (access_of w y) w x y z → r ≡ passes_of l n w x y z m
        unfolding decode_bundle
        pass_access e er =
            passing (access_of w y) (rw (← ek, e)) (er ∙ any_count l n w x y z (d_of y) (a_of w) (b_of y) (eqb (kind_of y) command.load))

        pub pass_gox : k ≡ command.shl → r ≡ is_bundle l n (GOX (a_of w) (a_of z) (b_of z) (c_of z)) w x y z → r ≡ passes_of l n w x y z m
        unfolding decode_bundle
        pass_gox e er = passing (GOX (a_of w) (a_of z) (b_of z) (c_of z)) (rw (← ek, e)) er

        pub pass_goif : w < 2 ^ 64 → k ≡ command.goif → r ≡ goif_words l n w x y z → r ≡ passes_of l n w x y z m
        unfolding decode_bundle
        pass_goif fits e er =
            passing (GOIF (a_of w) (b_of w) (c_of w) (bundle_index l (v_of w))) (rw (← ek, e)) (er ∙ goif_is l n w fits (sym ek ∙ e) x y z)

        pub pass_event : k ≡ command.look → r ≡ event_words w x y z → r ≡ passes_of l n w x y z m
        unfolding decode_bundle
        pass_event e er = passing (EVENT (v_of w)) (rw (← ek, e)) (er ∙ event_is)

      -- a kind with which no shape begins
      pub pass_none : (leb command.set k && leb k command.sar) ≡ false → (k ≡ command.halt → ⊥) → (k ≡ command.andi → ⊥) → (k ≡ command.shl → ⊥)
          → (k ≡ command.goif → ⊥) → (k ≡ command.look → ⊥) → false ≡ passes_of l n w x y z m
      unfolding is_bundle valid
      pass_none t no_halt no_andi no_shl no_goif no_look =
          rw (← (off_plain (λ e. no_halt (ek ∙ e)) (λ e. no_andi (ek ∙ e)) (λ e. no_goif (ek ∙ e)) (λ e. no_shl (ek ∙ e)) (λ e. no_look (ek ∙ e)))) (go (leb command.set k) refl)
        where
          go : (s : Bool) → leb command.set k ≡ s → false ≡ (is_bundle l n (PLAIN (kind_of w - plain_step) (d_of w) (a_of w) (b_of w) (v_of w)) w x y z && (m || eqb (kind_of w) command.halt))
          go true e =
              let f : leb k command.sar ≡ false = (rw e at t) in
              let h : command.sar < k = leb-false _ _ f in
              rw (lt-leb (kind_of w - plain_step) guest.sar (omega arith), and-false (leb guest.set (kind_of w - plain_step)))
          go false e =
              let h : k < command.set = leb-false _ _ e in
              let z : kind_of w ≡ 0 = omega (arith, no_halt) in
              rw z
