-- Fields cut to their widths in a word, as packing does.
use Rattle.std.specs.Prelude.{ℕ, ◌%◌, ◌^◌}
use Rattle.types.specs.declared.Fields.{Fields}
use Rattle.spec.specs.Words.{pack_of}

-- fields cut to their widths in a word
abbrev pub truncate_fields : Fields → Fields
truncate_fields f =
    record { kind = f.kind % 2 ^ 8; d = f.d % 2 ^ 4; a = f.a % 2 ^ 4; b = f.b % 2 ^ 4; c = f.c % 2 ^ 4; v = f.v % 2 ^ 32 }

-- the word of six fields, each cut to its width
abbrev pub truncated_word : ℕ → ℕ → ℕ → ℕ → ℕ → ℕ → ℕ
truncated_word k d a b c v = pack_of (k % 2 ^ 8) (d % 2 ^ 4) (a % 2 ^ 4) (b % 2 ^ 4) (c % 2 ^ 4) (v % 2 ^ 32)
