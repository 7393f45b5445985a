use Rattle.exchange.proofs.MarkLaws.{cleared_made}
use Rattle.exchange.proofs.marks.cleared.Goals as goal

pub returns : goal.returns
returns c = cleared_made
