use Rattle.std.proofs.Common.{arith}
use Rattle.std.proofs.lemmas.Grind.{common_steps}
use Rattle.replay_servers.specs.Table.{altered, replied}
use Rattle.replay_servers.proofs.dispatch.Goals as goal

pub returns-then-k-t : goal.returns-then-k-t
unfolding altered replied
returns-then-k-t c = let h = c.alter.ensures in grind (arith, common_steps)

pub returns-else-k-t : goal.returns-else-k-t
unfolding altered replied
returns-else-k-t c = grind (arith, common_steps)
