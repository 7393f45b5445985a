-- How many actions of the queue each server made.
use Rattle.std.specs.Prelude.{ℕ, ◌+◌, ◌*◌, ◌≤◌, ◌<◌, ◌≡◌, Bool, List, length, get_or}
use Rattle.base.specs.Tests.{◌≤?◌}
use Rattle.base.specs.Lists.{every_at, Each}
use Rattle.format.specs.Limits.{most_servers_limit, most_ids}
use Rattle.format.specs.Types.{Action}
use Rattle.replication.specs.Machine.Colours.{of_creator}
use Rattle.image.specs.Layout.{slot_size}
use Rattle.image.specs.Decode.{actions_at}

-- K6: "its q bounds only those not white": of each of n servers, at most q of these actions.
unfoldable pub quotas_fit : (n q : ℕ) → List Action → Bool
quotas_fit n q xs = every_at (λ k. of_creator k xs ≤? q) 1 n 0

-- The table t has how many of these actions each server made.
abbrev pub Tally : List Action → List ℕ → Type 0
Tally xs t = (k : ℕ) → k < most_servers_limit → get_or t k 0 ≡ of_creator k xs

-- m actions to be counted, from `at` on: they lie in the bytes b, there is a number for each creator, and it does not wrap.
pub record TallyRoom (m : ℕ) (b : List ℕ) (at : ℕ) : Type 0 where
  pub few : m ≤ most_ids
  pub inside : at + slot_size * m ≤ length b
  pub creators : Each (λ a. a.id.creator < most_servers_limit) (actions_at m b at)

-- The same test, of the table: of m servers from the number k on.
unfoldable pub tally_fits : (q : ℕ) → List ℕ → (m k : ℕ) → Bool
tally_fits q t m k = every_at (λ j. get_or t j 0 ≤? q) 1 m k
