use Rattle.std.proofs.Common.{rules}
use Rattle.replay_servers.proofs.CoreLaws.{records_first}
use Rattle.replay_servers.proofs.records.records.Goals as goal

pub returns : goal.returns
returns c = search (rules, records_first)
