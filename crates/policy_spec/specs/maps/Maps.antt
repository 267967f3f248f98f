-- Natural numbers as sets of bits, and tests, counts and lists over the numbers below n.
use Rattle.std.specs.Prelude.{ℕ, zero, suc, ◌+◌, ◌^◌, Bool, true, false, ◌&&◌, ◌||◌, cond, List, [], ◌∷◌, ◌++◌}
use Rattle.spec.specs.Landings.{bit_at}

-- whether every number below n passes
unfoldable pub every : (ℕ → Bool) → ℕ → Bool
every p zero = true
every p (suc n) = every p n && p n

-- whether some number below n passes
unfoldable pub some : (ℕ → Bool) → ℕ → Bool
some p zero = false
some p (suc n) = some p n || p n

-- how many numbers below n pass
unfoldable pub count : (ℕ → Bool) → ℕ → ℕ
count p zero = 0
count p (suc n) = count p n + cond (p n) 1 0

-- the set of the numbers below n that pass: bit k stands for k
unfoldable pub map_where : (ℕ → Bool) → ℕ → ℕ
map_where p zero = 0
map_where p (suc n) = map_where p n + cond (p n) (2 ^ n) 0

-- whether bit k is set; `bit_at` of the rules, but opaque to proofs
unfoldable pub bit : ℕ → ℕ → Bool
bit m k = bit_at m k

-- the list f 0, ..., f (n - 1)
unfoldable pub build : (ℕ → ℕ) → ℕ → List ℕ
build f zero = []
build f (suc n) = build f n ++ (f n ∷ [])
