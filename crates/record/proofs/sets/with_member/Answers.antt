use Rattle.record.proofs.SetCode.{with_made}
use borrow.Author.Rules.{rules}
use Rattle.record.proofs.sets.with_member.Goals as goal

pub returns : goal.returns
returns c = search (rules, with_made)
