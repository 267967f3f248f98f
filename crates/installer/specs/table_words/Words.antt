-- Tests one word of a policy's table, four bytes at once.
use Rattle.std.specs.Prelude.{ℕ, zero, suc, ◌/◌, ◌%◌, Bool, ◌&&◌, List, [], ◌∷◌}
use Rattle.spec.specs.Policies.{states_right, entries_right}

-- the n lowest bytes of a number, low first, and the four of a word
abbrev pub low_bytes : ℕ → ℕ → List ℕ
low_bytes zero w = []
low_bytes (suc n) w = w % 256 ∷ low_bytes n (w / 256)

abbrev pub word_bytes : ℕ
word_bytes = 4

-- request 3's test of one word: 'yes exactly when S is from 1 to 16 and each of the word's four bytes is below S or 255'
unfoldable pub word_right : ℕ → ℕ → Bool
word_right s w = states_right s && entries_right s (low_bytes word_bytes w)
