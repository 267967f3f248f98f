-- Laws of the words of a bundle.
use mathlib.Core.Path.{◌≡◌, refl, ◌∙◌, subst}
use mathlib.Core.Bool.{true}
use mathlib.Core.List.{[], ◌∷◌}
use Prim.Native.Nat.{ℕ, ◌+◌, ◌*◌, ◌≤◌, ◌<◌, ◌^◌}
use native.Mathlib.Omega.{arith}
use native.Mathlib.Nat.{mod-eq_of_lt}
use Rattle.types.specs.declared.Layout.{Layout}
use Rattle.types.specs.declared.Instr.{Instr}
use Rattle.types.specs.declared.Instr.TheVariants.{HALT, PLAIN, LOAD, STORE, GOIF, GOX, EVENT}
use Rattle.types.specs.declared.Bundle.{Bundle}
use Rattle.types.specs.Names.{bundle_length, bundle_shift, hidden, top_word, guest, command, plain_step}
use Rattle.spec.specs.Words.{pack_of}
use Rattle.spec.specs.Commands.{limits_of, word_of}
use Rattle.spec.specs.Bundles.{address_of, last_address, shape_of, bundle_of, valid}
use Rattle.spec.proofs.Tables.{all, raised}
use Rattle.spec.proofs.Facts.{Valid}
use Rattle.spec.proofs.Conditions.{valid_is}
use Rattle.words.specs.fields.Truncation.{truncated_word}
use Rattle.words.specs.Packing.{Packable}

-- the numbers of plain commands have 32 bits
plain_top : (k v : ℕ) → k ≤ guest.sar → v ≤ (limits_of (k + plain_step)).v → v ≤ top_word
unfolding all
plain_top k v h l = raised (λ k. (limits_of (k + plain_step)).v) (λ _. top_word) guest.load refl k v (omega arith) l

-- if fields fit, packing cuts nothing off
pub untruncated_word : (k d a b c v : ℕ) → k < 2 ^ 8 → d < 2 ^ 4 → a < 2 ^ 4 → b < 2 ^ 4 → c < 2 ^ 4 → v < 2 ^ 32 → truncated_word k d a b c v ≡ pack_of k d a b c v
untruncated_word k d a b c v hk hd ha hb hc hv =
    rw (mod-eq_of_lt hk, mod-eq_of_lt hd, mod-eq_of_lt ha, mod-eq_of_lt hb, mod-eq_of_lt hc, mod-eq_of_lt hv)

four : (w x y z w' x' y' z' : ℕ) → w ≡ w' → x ≡ x' → y ≡ y' → z ≡ z' → ◌≡◌ {A = Bundle} record { words = w ∷ x ∷ y ∷ z ∷ [] } record { words = w' ∷ x' ∷ y' ∷ z' ∷ [] }
four w x y z w' x' y' z' ew ex ey ez i = record { words = ew i ∷ ex i ∷ ey i ∷ ez i ∷ [] }

-- one law for each instruction: its packed words are its bundle
module _ (l : Layout) (n : ℕ) (i : Instr) (f : Packable l n i) where
  facts : (j : Instr) → i ≡ j → Valid n j
  facts j e = valid_is n j (subst (λ (x : Instr). valid n x ≡ true) e f.valid)

  pub lay_halt : i ≡ HALT → (w : ℕ) → w ≡ truncated_word command.halt 0 0 0 0 0 → record { words = w ∷ 0 ∷ 0 ∷ 0 ∷ [] } ≡ bundle_of l n i
  unfolding shape_of word_of
  lay_halt e w ew = rw (e, ew)

  pub lay_plain : (k d a b v : ℕ) → i ≡ PLAIN k d a b v → (w : ℕ) → w ≡ truncated_word (k + plain_step) d a b 0 v → record { words = w ∷ 0 ∷ 0 ∷ 0 ∷ [] } ≡ bundle_of l n i
  unfolding shape_of word_of
  lay_plain k d a b v e w ew =
      let g = facts (PLAIN k d a b v) e in
      let h1 = g.1 in
      let h2 = g.2 in
      let h3 = g.3 in
      let h4 = g.4 in
      let t = plain_top k v h1 g.8 in
      rw e (four _ _ _ _ _ _ _ _ (ew ∙ untruncated_word (k + plain_step) d a b 0 v (omega arith) (omega arith) (omega arith) (omega arith) (omega arith) (omega arith)) refl refl refl)

  -- LOAD and STORE: the mask of their address, then the access
  module _ (hh : l.high < 2 ^ 32) (hl : l.low < 2 ^ 32) where
    lay_access : (a : ℕ) → a < 2 ^ 4 → (w x y y' : ℕ) → w ≡ truncated_word command.andi hidden a 0 0 l.high → x ≡ truncated_word command.ori hidden hidden 0 0 l.low → y ≡ y'
        → ◌≡◌ {A = Bundle} record { words = w ∷ x ∷ y ∷ 0 ∷ [] } record { words = pack_of command.andi hidden a 0 0 l.high ∷ pack_of command.ori hidden hidden 0 0 l.low ∷ y' ∷ 0 ∷ [] }
    lay_access a ha w x y y' ew ex ey =
        four _ _ _ _ _ _ _ _ (ew ∙ untruncated_word command.andi hidden a 0 0 l.high (omega arith) (omega arith) ha (omega arith) (omega arith) hh)
        (ex ∙ untruncated_word command.ori hidden hidden 0 0 l.low (omega arith) (omega arith) (omega arith) (omega arith) (omega arith) hl)
        ey refl

    pub lay_load : (d a : ℕ) → i ≡ LOAD d a → (w x y : ℕ) → w ≡ truncated_word command.andi hidden a 0 0 l.high
        → x ≡ truncated_word command.ori hidden hidden 0 0 l.low → y ≡ truncated_word command.load d hidden 0 0 0
        → record { words = w ∷ x ∷ y ∷ 0 ∷ [] } ≡ bundle_of l n i
    unfolding shape_of word_of
    lay_load d a e w x y ew ex ey =
        let g = facts (LOAD d a) e in
        rw e
        (lay_access a (omega (arith, g.1)) w x y _ ew ex
        (ey ∙ untruncated_word command.load d hidden 0 0 0 (omega arith) (omega (arith, g.0)) (omega arith) (omega arith) (omega arith) (omega arith)))

    pub lay_store : (a b : ℕ) → i ≡ STORE a b → (w x y : ℕ) → w ≡ truncated_word command.andi hidden a 0 0 l.high
        → x ≡ truncated_word command.ori hidden hidden 0 0 l.low → y ≡ truncated_word command.store 0 hidden b 0 0
        → record { words = w ∷ x ∷ y ∷ 0 ∷ [] } ≡ bundle_of l n i
    unfolding shape_of word_of
    lay_store a b e w x y ew ex ey =
        let g = facts (STORE a b) e in
        rw e
        (lay_access a (omega (arith, g.0)) w x y _ ew ex
        (ey ∙ untruncated_word command.store 0 hidden b 0 0 (omega arith) (omega arith) (omega arith) (omega (arith, g.1)) (omega arith) (omega arith)))

  pub lay_goif : (a b c v : ℕ) → i ≡ GOIF a b c v → (w : ℕ) → w ≡ truncated_word command.goif 0 a b c (address_of l v) → record { words = w ∷ 0 ∷ 0 ∷ 0 ∷ [] } ≡ bundle_of l n i
  unfolding shape_of word_of
  lay_goif a b c v e w ew =
      let g = facts (GOIF a b c v) e in
      let m = f.top in
      rw e
      (four _ _ _ _ _ _ _ _ (ew ∙ untruncated_word command.goif 0 a b c (address_of l v) (omega arith) (omega arith) (omega (arith, g.0))
      (omega (arith, g.1)) (omega (arith, g.2)) (omega (arith, g.3, f.top))) refl refl refl)

  pub lay_gox : (d a b c : ℕ) → i ≡ GOX d a b c → (w x y z : ℕ) → w ≡ truncated_word command.shl hidden d 0 0 bundle_shift → x ≡ truncated_word command.andi hidden hidden 0 0 (last_address l n)
      → y ≡ truncated_word command.ori hidden hidden 0 0 l.base → z ≡ truncated_word command.goxr hidden a b c 0 → record { words = w ∷ x ∷ y ∷ z ∷ [] } ≡ bundle_of l n i
  unfolding shape_of word_of
  lay_gox d a b c e w x y z ew ex ey ez =
      let g = facts (GOX d a b c) e in
      let m = f.top in
      rw e
      (four _ _ _ _ _ _ _ _ (ew ∙ untruncated_word command.shl hidden d 0 0 bundle_shift (omega arith) (omega arith) (omega (arith, g.0)) (omega arith) (omega arith) (omega arith))
      (ex ∙ untruncated_word command.andi hidden hidden 0 0 (last_address l n) (omega arith) (omega arith) (omega arith) (omega arith) (omega arith) (omega arith))
      (ey ∙ untruncated_word command.ori hidden hidden 0 0 l.base (omega arith) (omega arith) (omega arith) (omega arith) (omega arith) (omega arith))
      (ez ∙ untruncated_word command.goxr hidden a b c 0 (omega arith) (omega arith) (omega (arith, g.1)) (omega (arith, g.2)) (omega (arith, g.3)) (omega arith)))

  pub lay_event : (v : ℕ) → i ≡ EVENT v → (w x y z : ℕ) → w ≡ truncated_word command.look hidden 0 0 0 v → x ≡ truncated_word command.stopif hidden 0 0 0 0
      → y ≡ truncated_word command.event 0 0 0 0 v
      → z ≡ truncated_word command.keep hidden 0 0 0 0 → record { words = w ∷ x ∷ y ∷ z ∷ [] } ≡ bundle_of l n i
  unfolding shape_of word_of
  lay_event v e w x y z ew ex ey ez =
      let g = facts (EVENT v) e in
      rw e
      (four _ _ _ _ _ _ _ _ (ew ∙ untruncated_word command.look hidden 0 0 0 v (omega arith) (omega arith) (omega arith) (omega arith) (omega arith) (omega arith)) ex
      (ey ∙ untruncated_word command.event 0 0 0 0 v (omega arith) (omega arith) (omega arith) (omega arith) (omega arith) (omega arith)) ez)

  -- the sums do not overflow
  pub kind_fits : (k d a b v : ℕ) → i ≡ PLAIN k d a b v → k + plain_step < 2 ^ 64
  kind_fits k d a b v e = let g = facts (PLAIN k d a b v) e in omega (arith, g.1)

  pub jump_fits : (a b c v : ℕ) → i ≡ GOIF a b c v → bundle_length * v < 2 ^ 64
  jump_fits a b c v e = let g = facts (GOIF a b c v) e in omega (arith, g.3, f.most)

  pub landing_fits : (a b c v : ℕ) → i ≡ GOIF a b c v → address_of l v < 2 ^ 64
  landing_fits a b c v e = let g = facts (GOIF a b c v) e in omega (arith, g.3, f.top)
