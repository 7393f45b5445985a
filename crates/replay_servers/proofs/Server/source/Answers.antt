use Rattle.std.proofs.Common.{rules}
use Rattle.replay_servers.proofs.CoreLaws.{source_stored, source_running}
use Rattle.replay_servers.proofs.Server.source.Goals as goal

pub returns-then-is_recovery : goal.returns-then-is_recovery
returns-then-is_recovery c = search (rules, source_stored)

pub returns : goal.returns
returns c = search (rules, source_running)
