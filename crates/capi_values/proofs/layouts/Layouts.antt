-- The layout that a C host's numbers mean.
use Prim.Native.Nat.{ℕ, ◌+◌, ◌-◌}
use mathlib.Core.Path.{◌≡◌, sym, ◌∙◌, ap}
use mathlib.Core.List.{List}
use native.Mathlib.Omega.{arith}
use lib.ListN.{length, get_or, take, drop, replicate, length-drop}
use lib.Seq.{sets, length-take-le}
use Rattle.types.specs.declared.Layout.{Layout}
use Rattle.types.specs.Names.{orders}
use Rattle.types.specs.Records.{layout_of}
use Rattle.buffers.proofs.stores.Storing.{store_all}
use Rattle.capi_spec.specs.Numbers.{numbers_from, layout_from}
use Rattle.capi_spec.proofs.Numbers.{spelt}

-- the last eight numbers, stored over zeros
pub ceilings_of : (xs out : List ℕ) (at : ℕ) → length xs ≡ at + orders → out ≡ sets (replicate orders 0) 0 (take (length xs - at) (drop at xs)) → out ≡ numbers_from orders at xs
ceilings_of xs out at l e =
    let part : length xs - at ≡ orders = omega arith in
    let eight : length (take orders (drop at xs)) ≡ orders = length-take-le orders (drop at xs) (simp length-drop (omega arith)) in
    e ∙ ap (λ (n : ℕ). sets (replicate orders 0) 0 (take n (drop at xs))) part ∙ store_all (replicate orders 0) (take orders (drop at xs)) (sym eight) ∙ spelt orders at xs (omega arith)

pub layout_of_lem : (xs cs : List ℕ) (l : Layout) → cs ≡ numbers_from orders 8 xs
    → l ≡ layout_of (get_or xs 0 0) (get_or xs 1 0) (get_or xs 2 0) (get_or xs 3 0) (get_or xs 4 0) (get_or xs 5 0) (get_or xs 6 0) (get_or xs 7 0) cs → l ≡ layout_from xs
unfolding layout_from
layout_of_lem xs cs l e q = q ∙ ap (layout_of (get_or xs 0 0) (get_or xs 1 0) (get_or xs 2 0) (get_or xs 3 0) (get_or xs 4 0) (get_or xs 5 0) (get_or xs 6 0) (get_or xs 7 0)) e
