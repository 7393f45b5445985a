use Rattle.exchange.proofs.RaiseLaws.{raise_out, raise_other, raise_here}
use Rattle.exchange.proofs.first_list.FirstList.raise_at.Goals as goal

pub returns-then-table-p : goal.returns-then-table-p
returns-then-table-p c = raise_here _ _ _ _ _ _ c.in-Some.ensures.0 c.in-Some.ensures.1 c.if-table-p.true

pub returns-else-table-p : goal.returns-else-table-p
returns-else-table-p c = raise_other _ _ _ _ _ _ c.in-Some.ensures.0 c.in-Some.ensures.1 c.if-table-p.false

pub returns-in-None : goal.returns-in-None
returns-in-None c = raise_out _ _ _ _ _ c.in-None.ensures
