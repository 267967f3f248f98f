-- Laws of the shapes of LOAD and STORE.
use mathlib.Core.Path.{◌≡◌, refl}
use mathlib.Core.Bool.{Bool, true, false, ◌&&◌, and-false}
use Prim.Native.Nat.{ℕ}
use lib.Dec.{ltb, eqb}
use borrow.Author.Tests.{ne_eqb}
use Rattle.types.specs.declared.Layout.{Layout}
use Rattle.types.specs.Names.{guest_registers, command}
use Rattle.spec.specs.Words.{kind_of, d_of, a_of, b_of}
use Rattle.spec.specs.Commands.{word_of}
use Rattle.spec.specs.Bundles.{shape_of, valid, is_bundle}
use Rattle.checker.specs.masked_access.MaskedAccess.{mask_words, load_word, store_word, access_of}

-- the tests of three words, in another order
load_order : (a p q d s t : Bool) → (a && p && q && (d && s) && t) ≡ (d && a && p && q && s && t)
load_order a p q true s t = refl
load_order a p q false s t = rw (and-false (a && p && q))

store_order : (a p q b s t : Bool) → (a && p && q && (b && s) && t) ≡ (a && b && p && q && s && t)
store_order true p q true s t = refl
store_order true p q false s t = rw (and-false (p && q))
store_order false p q b s t = refl

module _ (l : Layout) (w x y z k : ℕ) (m r : Bool) (ek : k ≡ kind_of y) (em : m ≡ mask_words l w x) where
  pub by_load : k ≡ command.load → r ≡ load_word y → (m && r && eqb z 0) ≡ is_bundle l 0 (access_of w y) w x y z
  unfolding is_bundle valid shape_of word_of
  by_load h er = rw (em, er, ← ek, h) (load_order (ltb (a_of w) guest_registers) _ _ (ltb (d_of y) guest_registers) _ _)

  pub by_store : (k ≡ command.load → ⊥) → r ≡ store_word y → (m && r && eqb z 0) ≡ is_bundle l 0 (access_of w y) w x y z
  unfolding is_bundle valid shape_of word_of
  by_store h er = rw (em, er, ← ek, ne_eqb k command.load h) (store_order (ltb (a_of w) guest_registers) _ _ (ltb (b_of y) guest_registers) _ _)
