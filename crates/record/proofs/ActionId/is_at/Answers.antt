use Rattle.record.proofs.Turns.{same_read}
use borrow.Author.Rules.{rules}
use Rattle.record.proofs.ActionId.is_at.Goals as goal

pub returns : goal.returns
returns c = search (rules, same_read)
