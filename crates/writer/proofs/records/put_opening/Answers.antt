use Rattle.writer.proofs.RecordLaws.{opening_put}
use borrow.Author.Rules.{rules}
use Rattle.writer.proofs.records.put_opening.Goals as goal

pub returns : goal.returns
returns c = search (rules, opening_put)
