use Rattle.base.proofs.Branches.{told}
use Rattle.base.specs.Sets.{in_set}
use Rattle.record.proofs.SetCode.{no_member}
use borrow.Author.Rules.{rules}
use Rattle.record.proofs.sets.has.Goals as goal

pub returns-else-k-lt8 : goal.returns-else-k-lt8
returns-else-k-lt8 c = search (rules, no_member)

pub returns-then-k-lt8 : goal.returns-then-k-lt8
unfolding in_set
returns-then-k-lt8 c = search (rules, told)
