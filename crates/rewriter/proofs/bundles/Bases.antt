-- Laws of the words that name an address, from the base as a 64-bit number.
use Rattle.std.proofs.Common.{ℕ, ◌+◌, ◌-◌, ◌*◌, ◌^◌, ◌<◌, ◌≡◌, [], ◌∷◌}
use Rattle.types.specs.declared.Layout.{Layout}
use Rattle.types.specs.declared.Instr.{Instr}
use Rattle.types.specs.declared.Instr.TheVariants.{GOIF, GOX}
use Rattle.types.specs.Names.{bundle_length, bundle_shift, hidden, command}
use Rattle.spec.specs.Bundles.{bundle_of}
use Rattle.words.specs.fields.Truncation.{truncated_word}
use Rattle.words.specs.Packing.{Packable}
use Rattle.words.proofs.BundleWords.{landing_fits, lay_gox}

module _ (l : Layout) (n : ℕ) (i : Instr) (f : Packable l n i) (base : ℕ) (e : base ≡ l.base) where
  pub target_fits : (a b c v : ℕ) → i ≡ GOIF a b c v → base + bundle_length * v < 2 ^ 64
  target_fits a b c v q = rw e (landing_fits l n i f a b c v q)

  pub laid_gox : (d a b c : ℕ) → i ≡ GOX d a b c → (w x y z : ℕ) → w ≡ truncated_word command.shl hidden d 0 0 bundle_shift
      → x ≡ truncated_word command.andi hidden hidden 0 0 (base + bundle_length * n - 1) → y ≡ truncated_word command.ori hidden hidden 0 0 base
      → z ≡ truncated_word command.goxr hidden a b c 0 → record { words = w ∷ x ∷ y ∷ z ∷ [] } ≡ bundle_of l n i
  laid_gox d a b c q w x y z ew ex ey ez = lay_gox l n i f d a b c q w x y z ew (rw e at ex) (rw e at ey) ez
