use Rattle.register_step.proofs.BurstCode.{along_starts, can_follow, along_ends, along_less, along_on}
use borrow.Author.Rules.{rules}
use Rattle.register_step.proofs.take_burst.Goals as goal

pub loop-all-init : goal.loop-all-init
loop-all-init c = search (rules, along_starts)

pub then-all-requires : goal.then-all-requires
then-all-requires c = search (rules, can_follow)

pub returns-then-is_last : goal.returns-then-is_last
returns-then-is_last c = search (rules, along_ends)

pub loop-all-smaller : goal.loop-all-smaller
loop-all-smaller c = search (rules, along_less)

pub loop-all-preserved : goal.loop-all-preserved
loop-all-preserved c = search (rules, along_on)
