-- What `hemdroas_merge` takes, answers and leaves, as numbers.
use Rattle.std.specs.Prelude.{ℕ, List, [], ◌∷◌, length, get_or}
use Rattle.types.specs.Names.{orders}
use Rattle.spec.specs.Policies.{Policy, policy_of}
use Rattle.capi_spec.specs.Numbers.{numbers_from, answer_to}
use Rattle.policy_merge.specs.Pairs.{Merged, merge_of, merge_table}

-- one of the two policies from its numbers: state count, start, ceilings
abbrev pub ceilings_from : List ℕ → List ℕ
ceilings_from xs = numbers_from orders 2 xs

-- its policy, with its table
abbrev pub policy_from : List ℕ → List ℕ → Policy
policy_from xs table = policy_of (get_or xs 0 0) (get_or xs 1 0) table []

-- the merged policy as such numbers
abbrev pub merged_to : Merged → List ℕ
merged_to m = m.policy.states ∷ m.policy.start ∷ m.ceilings

-- what hemdroas_merge leaves: the answer, the merged policy, the table
pub record HostMerged : Type 0 where
  pub answer : List ℕ
  pub merged : List ℕ
  pub table : List ℕ

abbrev pub host_merged : List ℕ → List ℕ → List ℕ → HostMerged
host_merged a m table = record { answer = a; merged = m; table = table }

unfoldable pub merge_for : List ℕ → List ℕ → List ℕ → List ℕ → List ℕ → HostMerged
merge_for xs left ys right table =
    let m = merge_of (policy_from xs left) (ceilings_from xs) (policy_from ys right) (ceilings_from ys) (length table) in
    host_merged (answer_to m.answer) (merged_to m) (merge_table (policy_from xs left) (policy_from ys right) table)
