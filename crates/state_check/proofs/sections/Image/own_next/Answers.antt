use Rattle.state_check.proofs.SectionCode.{next_told}
use borrow.Author.Rules.{rules}
use Rattle.state_check.proofs.sections.Image.own_next.Goals as goal

pub returns : goal.returns
returns c = search (rules, next_told)
