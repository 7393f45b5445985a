use Rattle.base.specs.Bytes.{zeros}
use Rattle.replay_servers.proofs.CoreLaws.{core_made}
use Rattle.std.proofs.Common.{rules}
use Rattle.replay_servers.proofs.Server.core.Goals as goal

pub returns : goal.returns
unfolding zeros
returns c = search (rules, core_made)
