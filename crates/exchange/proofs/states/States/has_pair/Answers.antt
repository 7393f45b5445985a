use Rattle.exchange.proofs.PrimaryLaws.{pair_not, pair_told}
use Rattle.exchange.proofs.states.States.has_pair.Goals as goal

pub returns-then-eq : goal.returns-then-eq
returns-then-eq c = pair_told _ _ _ _ c.last-x.ensures c.if-eq.ensures c.eq-then-eq.ensures

pub returns-else-eq : goal.returns-else-eq
returns-else-eq c = pair_not _ _ _ _ c.last-x.ensures c.eq.ensures c.if-eq.false
