-- What an event is read against: the code's numbers, and the format's context that they stand for.
use Rattle.std.specs.Prelude.{ℕ, zero, suc, ◌≤◌, ◌<◌}
use Rattle.std.proofs.Math.Option.{Option, none, some}
use Rattle.format.specs.Limits.{fewest_servers_limit, most_servers_limit, least_quota_limit, most_quota_limit}
use Rattle.format.specs.Types.{Context as FormatContext}
use Rattle.record.specs.declared.Context.{Context}
use Rattle.record.specs.declared.State.{State}

-- What an event that comes in the state s is read against.
unfoldable pub reading_context : State → Context
reading_context s = record {
  servers = s.servers;
  quota = s.quota;
  me = s.me;
  configured = s.configuration_status;
  set = s.configuration_set;
}

-- The last regular set, if there was a regular configuration since start or recovery.
unfoldable pub last_of : ℕ → ℕ → Option ℕ
last_of zero s = none
last_of (suc k) s = some s

unfoldable pub context_of : Context → FormatContext
context_of c = record { servers = c.servers; quota = c.quota; self = c.me; last = last_of c.configured c.set }

-- The context's own numbers are in range.
pub record ContextIn (c : Context) : Type 0 where
  pub fewest : fewest_servers_limit ≤ c.servers
  pub most : c.servers ≤ most_servers_limit
  pub least : least_quota_limit ≤ c.quota
  pub largest : c.quota ≤ most_quota_limit
  pub own : c.me < c.servers
