-- What loading answers and leaves, as a C host's numbers.
use Prim.Native.Nat.{ℕ}
use mathlib.Core.Path.{◌≡◌, ap}
use mathlib.Core.List.{List}
use lib.ListN.{length}
use Rattle.types.specs.declared.Layout.{Layout}
use Rattle.types.specs.Results.{Installed}
use Rattle.spec.specs.Policies.{Policy}
use Rattle.sandbox_spec.specs.Loading.{load_commands, load_memory, load_of}
use Rattle.capi_spec.specs.Numbers.{layout_from, machine_to, answer_to}
use Rattle.capi_spec.specs.Hosts.{HostLoaded, host_loaded, load_for}

-- with the layout from a host's numbers
pub loaded : (xs : List ℕ) (l : Layout) → l ≡ layout_from xs → (pol : Policy) (mem mem' ms ns : List ℕ) (i : Installed) → ms ≡ machine_to i.machine → ns ≡ answer_to i.answer
    → (bytes out out' : List ℕ) → i ≡ load_of l pol bytes (length out) mem → out' ≡ load_commands l pol bytes out mem → mem' ≡ load_memory l pol bytes (length out) mem
    → host_loaded ns ms out' mem' ≡ load_for xs pol bytes out mem
unfolding load_for
loaded xs l e pol mem mem' ms ns i s t bytes out out' p o q =
    let host : Installed → HostLoaded = λ j. host_loaded (answer_to j.answer) (machine_to j.machine) (load_commands l pol bytes out mem) (load_memory l pol bytes (length out) mem) in
    rw (s, t, o, q, ← e) (ap host p)
