use native.Mathlib.Omega.{arith}
use lib.Count.{trailing_le}
use Rattle.votes.proofs.VoteLaws.{lowest_found}
use Rattle.votes.proofs.lowest_member.Goals as goal

pub overflow_cast-result : goal.overflow_cast-result
overflow_cast-result c = omega (arith, trailing_le 8 c.args.set)

pub returns : goal.returns
returns c = lowest_found c.args.set
