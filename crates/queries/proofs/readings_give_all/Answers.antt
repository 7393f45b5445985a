use Rattle.queries.proofs.ReadingLaws.{readings_give_all}
use Rattle.queries.proofs.readings_give_all.Goals as goal

pub returns : goal.returns
returns c = readings_give_all
