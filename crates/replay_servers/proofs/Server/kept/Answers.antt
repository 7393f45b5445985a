use Rattle.std.proofs.Common.{rules}
use Rattle.replay_servers.proofs.CoreLaws.{kept_refused, kept_stored, kept_unstored}
use Rattle.replay_servers.proofs.Server.kept.Goals as goal

pub returns-then-number-ne0 : goal.returns-then-number-ne0
returns-then-number-ne0 c = search (rules, kept_refused)

pub returns-then-store-eq1 : goal.returns-then-store-eq1
returns-then-store-eq1 c = search (rules, kept_stored)

pub returns : goal.returns
returns c = search (rules, kept_unstored)
