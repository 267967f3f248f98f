-- A law of ranges of addresses.
use Rattle.std.proofs.Common.{◌≡◌, ℕ, ◌+◌, ltb, leb, add-one}

-- a range that ends after m ends at or before n if m is before n
pub past : (m n : ℕ) → leb (m + 1) n ≡ ltb m n
past m n = rw add-one
