use Rattle.base.proofs.Branches.{told}
use Rattle.format.specs.Types.{kind_number}
use Rattle.daemons.specs.Buffers.{is_recovery}
use Rattle.base.proofs.TestLaws.{tests}
use borrow.Author.Rules.{rules}
use Rattle.burst.proofs.slices.is_recovery.Goals as goal

pub returns-then-e-ne-BODY : goal.returns-then-e-ne-BODY
unfolding is_recovery kind_number
returns-then-e-ne-BODY c = search (rules, tests, told) depth 12

pub returns-then-e-ne0 : goal.returns-then-e-ne0
unfolding is_recovery kind_number
returns-then-e-ne0 c = search (rules, tests, told) depth 12

pub returns-then-e-ne-NO_BODY : goal.returns-then-e-ne-NO_BODY
unfolding is_recovery kind_number
returns-then-e-ne-NO_BODY c = search (rules, tests, told) depth 12

pub returns-then-e-ne-VERSION : goal.returns-then-e-ne-VERSION
unfolding is_recovery kind_number
returns-then-e-ne-VERSION c = search (rules, tests, told) depth 12

pub returns : goal.returns
unfolding is_recovery kind_number
returns c = search (rules, tests, told) depth 12
