use Rattle.base.specs.Bytes.{zeros}
use Rattle.replay_servers.proofs.StartingLaws.{fresh_made}
use borrow.Author.Rules.{rules}
use Rattle.replay_servers.proofs.starting.fresh.Goals as goal

pub returns : goal.returns
unfolding zeros
returns c = search (rules, fresh_made)
