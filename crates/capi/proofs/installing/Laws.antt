-- What installing answers and leaves, as a C host's numbers.
use Prim.Native.Nat.{ℕ}
use mathlib.Core.Path.{◌≡◌, ap}
use mathlib.Core.List.{List}
use Rattle.types.specs.declared.Layout.{Layout}
use Rattle.types.specs.Results.{Installed}
use Rattle.spec.specs.Policies.{Policy}
use Rattle.spec.specs.Machines.{install_memory, install_of}
use Rattle.capi_spec.specs.Numbers.{layout_from, machine_to, answer_to}
use Rattle.capi_spec.specs.Hosts.{HostInstalled, host_installed, install_for}

-- with the layout from a host's numbers
pub installed : (xs : List ℕ) (l : Layout) → l ≡ layout_from xs → (pol : Policy) (mem mem' ms ns : List ℕ) (i : Installed) → ms ≡ machine_to i.machine → ns ≡ answer_to i.answer
    → i ≡ install_of l pol mem → mem' ≡ install_memory l pol mem → host_installed ns ms mem' ≡ install_for xs pol mem
unfolding install_for
installed xs l e pol mem mem' ms ns i s t p q =
    let host : Installed → HostInstalled = λ j. host_installed (answer_to j.answer) (machine_to j.machine) (install_memory l pol mem) in
    rw (s, t, q, ← e) (ap host p)
