-- A lent policy as the specs have it.
use Rattle.spec.specs.Policies.{Policy, lent_policy}
use Rattle.installer.specs.declared.LentPolicy.{LentPolicy}

abbrev pub policy_of_lent : LentPolicy → Policy
policy_of_lent p = lent_policy p.numbers p.table.now p.landings.now
