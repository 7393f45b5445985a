use Rattle.burst.proofs.BurstCode.{silent_yes, silent_no}
use borrow.Author.Rules.{rules}
use Rattle.burst.proofs.is_silent.Goals as goal

pub returns-then-not-t : goal.returns-then-not-t
returns-then-not-t c = search (rules, silent_yes)

pub returns-else-not-t : goal.returns-else-not-t
returns-else-not-t c = search (rules, silent_no)
