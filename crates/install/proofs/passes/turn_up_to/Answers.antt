use Rattle.install.proofs.PassLaws.{up_to_cut, up_to_next}
use borrow.Author.Rules.{rules}
use Rattle.install.proofs.passes.turn_up_to.Goals as goal

pub returns-then-cut-index : goal.returns-then-cut-index
returns-then-cut-index c = search (rules, up_to_cut)

pub returns : goal.returns
returns c = search (rules, up_to_next)
