use Rattle.std.proofs.Common.{◌≡◌, ◌<◌, ◌-◌, length}
use Rattle.std.specs.Prelude.{unwrap_or, IfSome}
use Rattle.std.proofs.lemmas.List.Edits.{sets as stores}
use Rattle.spec.specs.Bytes.{scan_of, words_of}
use Rattle.codec_read.specs.Scans.{first_past}
use Rattle.codec_read.proofs.scan.Given as goal

-- what is read and what is left make the whole
abbrev pub invariant-loop-i : goal.invariant-loop-i
invariant-loop-i l = record {
  answer : scan_of l.n 0 l.s ≡ scan_of (l.n - l.i) l.i l.t;
  past : first_past l.n (words_of l.n l.s) 0 ≡ unwrap_or l.past (first_past l.n (words_of (l.n - l.i) l.t) l.i);
  within : IfSome l.past (λ j. j < l.n);
  content : stores l.initial.words 0 (words_of l.n l.s) ≡ stores l.words l.i (words_of (l.n - l.i) l.t);
  size : length l.words ≡ length l.initial.words;
}
