-- The whole chunks of a list, as `as_chunks` gives them.
use Rattle.std.proofs.Common.{ℕ, zero, suc, ◌+◌, ◌*◌, ◌<◌, ◌≡◌, refl, ◌∙◌, List, [], take, drop, get_or, arith}
use Rattle.std.proofs.lemmas.List.{get_or-take, get_or-drop, drop-drop}
use Rattle.std.specs.Simd.{first_chunks}

pub chunk_at : {X : Type 0} (n k : ℕ) (xs : List X) (h : ℕ) (d : List X) → h < k → get_or (first_chunks n k xs) h d ≡ take n (drop (n * h) xs)
chunk_at n zero xs h d l = absurd (omega arith)
chunk_at n (suc k) xs zero d l = let z : n * 0 ≡ 0 = omega arith in rw z
chunk_at n (suc k) xs (suc h) d l = let z : n + n * h ≡ n * suc h = omega arith in chunk_at n k (drop n xs) h d (omega arith) ∙ rw (drop-drop (n * h) n xs, z)

-- element j of chunk h
pub chunk_element : {X : Type 0} (n k : ℕ) (xs : List X) (h j : ℕ) (d : List X) (e : X) → h < k → j < n → get_or (get_or (first_chunks n k xs) h d) j e ≡ get_or xs (n * h + j) e
chunk_element n k xs h j d e l m = rw (chunk_at n k xs h d l) (get_or-take n (drop (n * h) xs) j e m ∙ get_or-drop (n * h) xs j e)
