use Rattle.writer.proofs.StateLaws.{standing_put}
use borrow.Author.Rules.{rules}
use Rattle.writer.proofs.records.put_standing.Goals as goal

pub returns : goal.returns
returns c = search (rules, standing_put)
