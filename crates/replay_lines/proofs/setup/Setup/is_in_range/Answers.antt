use Rattle.std.proofs.Common.{arith}
use Rattle.format.specs.Setup.{setup_ok}
use Rattle.replay_lines.proofs.InputLaws.{chain}
use Rattle.replay_lines.proofs.setup.Setup.is_in_range.Goals as goal

pub returns-then-servers-le-MOST_SERVERS : goal.returns-then-servers-le-MOST_SERVERS
unfolding setup_ok
returns-then-servers-le-MOST_SERVERS c = grind (arith, chain)

pub returns-else-servers-le-MOST_SERVERS : goal.returns-else-servers-le-MOST_SERVERS
unfolding setup_ok
returns-else-servers-le-MOST_SERVERS c = grind (arith, chain)
