-- What `hemdroas_word_right` answers: 1 for yes, 0 for no.
use Rattle.std.specs.Prelude.{ℕ, Bool, true, false}

-- yes as 1, no as 0
abbrev pub yes_or_no : Bool → ℕ
yes_or_no true = 1
yes_or_no false = 0
