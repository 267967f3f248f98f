-- Two's complement numbers of 32 bits.
use Rattle.std.specs.Prelude.{ℕ, suc, ◌-◌, ◌^◌, Bool, ℤ, pos, negsuc, ltb}
use Rattle.spec.specs.Prelude.{shr_z, lt_z, sel}

-- the integer that 32 bits stand for: x below 2 ^ 31, else x - 2 ^ 32; `negsuc n` is -(n + 1)
abbrev pub twos : ℕ → ℤ
twos x = sel (ltb x (2 ^ 31)) (pos x) (negsuc (2 ^ 32 - suc x))

-- the 32 bits of an integer: z, or 2 ^ 32 + z
abbrev pub bits_of : ℤ → ℕ
bits_of (pos n) = n
bits_of (negsuc n) = 2 ^ 32 - suc n

-- SAR: x as two's complement, divided by 2 ^ v, rounded down
abbrev pub sar_of : ℕ → ℕ → ℕ
sar_of x v = bits_of (shr_z (twos x) (2 ^ v))

-- whether x is less than y as two's complement
abbrev pub less_of : ℕ → ℕ → Bool
less_of x y = lt_z (twos x) (twos y)
