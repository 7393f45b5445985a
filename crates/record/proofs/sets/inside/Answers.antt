use borrow.Author.Rules.{rules}
use Rattle.record.proofs.SetCode.{inside_told}
use Rattle.record.proofs.sets.inside.Goals as goal

pub returns : goal.returns
returns c = search (rules, inside_told)
