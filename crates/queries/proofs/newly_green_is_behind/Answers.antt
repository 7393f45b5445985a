use Rattle.queries.proofs.ReadingLaws.{newly_green}
use Rattle.queries.proofs.newly_green_is_behind.Goals as goal

pub returns : goal.returns
returns c = newly_green
