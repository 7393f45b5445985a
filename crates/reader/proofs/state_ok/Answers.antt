use Rattle.reader.proofs.Fields.{state_denied, state_answered}
use borrow.Author.Rules.{rules}
use Rattle.reader.proofs.state_ok.Goals as goal

pub returns-else-numbers_ok : goal.returns-else-numbers_ok
returns-else-numbers_ok c = search (rules, state_denied)

pub returns-then-numbers_ok : goal.returns-then-numbers_ok
returns-then-numbers_ok c = search (rules, state_answered)
