use Rattle.replay_servers.proofs.StartingLaws.{table_made}
use borrow.Author.Rules.{rules}
use Rattle.replay_servers.proofs.starting.begin.Goals as goal

pub returns : goal.returns
returns c = search (rules, table_made)
