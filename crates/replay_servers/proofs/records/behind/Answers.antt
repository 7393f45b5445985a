use Rattle.std.proofs.Common.{rules}
use Rattle.replay_servers.proofs.CoreLaws.{behind_made}
use Rattle.replay_servers.proofs.records.behind.Goals as goal

pub returns : goal.returns
returns c = search (rules, behind_made)
