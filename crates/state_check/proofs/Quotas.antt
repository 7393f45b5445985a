-- At most q actions of each server: the test, and what it says.
use Prim.Native.Nat.{ℕ, ◌+◌, ◌*◌, ◌≤◌, ◌<◌}
use mathlib.Core.Path.{◌≡◌, subst}
use mathlib.Core.Bool.{true}
use mathlib.Core.List.{List}
use native.Mathlib.Omega.{arith}
use Rattle.base.specs.Tests.{◌≤?◌}
use Rattle.base.proofs.TestLaws.{le_yes, le_holds}
use Rattle.base.proofs.Entries.{every_each, each_every}
use Rattle.format.specs.Types.{Action}
use Rattle.replication.specs.Machine.Colours.{of_creator}
use Rattle.state_check.specs.Tally.{quotas_fit}

module _ (n q : ℕ) (xs : List Action) where
  place : (k : ℕ) → 0 + 1 * k ≡ k
  place k = omega arith

  pub quota_held : quotas_fit n q xs ≡ true → (k : ℕ) → k < n → of_creator k xs ≤ q
  unfolding quotas_fit
  quota_held t k l = subst (λ (j : ℕ). of_creator j xs ≤ q) (place k) (le_holds _ _ (every_each (λ k. of_creator k xs ≤? q) 1 n 0 t k l))

  pub held_quota : ((k : ℕ) → k < n → of_creator k xs ≤ q) → quotas_fit n q xs ≡ true
  unfolding quotas_fit
  held_quota f = each_every (λ k. of_creator k xs ≤? q) 1 n 0 (λ k l. le_yes _ _ (f (0 + 1 * k) (omega arith)))
