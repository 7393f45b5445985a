use Rattle.register_step.proofs.BurstCode.{last_none, last_sent, last_stored}
use borrow.Author.Rules.{rules}
use Rattle.register_step.proofs.RegisterBurst.is_last.Goals as goal

pub returns-then-self-eq0 : goal.returns-then-self-eq0
returns-then-self-eq0 c = search (rules, last_none)

pub returns-then-self-ne0 : goal.returns-then-self-ne0
returns-then-self-ne0 c = search (rules, last_stored)

pub returns-else-self-ne0 : goal.returns-else-self-ne0
returns-else-self-ne0 c = search (rules, last_sent)
