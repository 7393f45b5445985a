use borrow.Author.Rules.{rules}
use Rattle.record.proofs.Turns.{ids_each}
use Rattle.record.proofs.lists.ids_ok.Goals as goal

pub returns : goal.returns
returns c = search (rules, ids_each)
