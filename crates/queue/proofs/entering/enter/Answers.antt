use Rattle.queue.proofs.Entered.{enter_own, enter_none, enter_other}
use Rattle.queue.proofs.entering.enter.Goals.{else-head-me-via-then-head-me+else-own-gt0, else-head-me-via-else-head-me}
use borrow.Author.Rules.{rules}
use Rattle.queue.proofs.entering.enter.Goals as goal

pub returns-then-own-gt0 : goal.returns-then-own-gt0
returns-then-own-gt0 c = search (rules, enter_own)

pub returns-else-head-me : goal.returns-else-head-me
returns-else-head-me c =
    elim c.else-head-me.branch [
      | else-head-me-via-then-head-me+else-own-gt0 w ↦ search (rules, enter_none)
      | else-head-me-via-else-head-me w ↦ search (rules, enter_other)
    ]
