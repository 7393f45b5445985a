use native.Mathlib.Omega.{arith}
use Rattle.image.proofs.InPlace.{such_header}
use Rattle.exchange.proofs.DecidedLaws.{states_told}
use borrow.Author.Rules.{rules}
use Rattle.exchange.proofs.decided.all_states_in.Goals as goal

pub num8-requires : goal.num8-requires
num8-requires c = omega (arith, such_header _ _ c.requires)

pub num8-requires-2 : goal.num8-requires-2
num8-requires-2 c = omega (arith, such_header _ _ c.requires)

pub returns : goal.returns
returns c = search (rules, states_told)
