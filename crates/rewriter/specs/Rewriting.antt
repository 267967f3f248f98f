-- What must hold before a routine's bundles are written.
use Rattle.std.specs.Prelude.{ℕ, ◌*◌, ◌^◌, ◌<◌, ◌≤◌, ◌≡◌, true, List}
use Rattle.types.specs.declared.Layout.{Layout}
use Rattle.types.specs.Names.{most_bundles, bundle_length}
use Rattle.spec.specs.Words.{routine}
use Rattle.spec.specs.Bundles.{address_of, valid}

-- n bundles that end at or before 2 ^ 32, room for them, and each instruction valid among them
pub record BundlesFit (l : Layout) (n : ℕ) (ws : List ℕ) (room : ℕ) : Type 0 where
  pub some : 0 < n
  pub most : n ≤ most_bundles
  pub top : address_of l n ≤ 2 ^ 32
  pub fit : bundle_length * n ≤ room
  pub each : (h : ℕ) → valid n (routine ws h) ≡ true
