use Rattle.register_check.proofs.CheckCode.{ends_filled, first_filled, last_other, words_filled}
use Rattle.register_check.specs.Slots.{long_size}
use borrow.Author.Rules.{rules}
use Rattle.register_check.proofs.checking.filled.Goals as goal

pub returns-then-long-ne0 : goal.returns-then-long-ne0
returns-then-long-ne0 c = search (rules, first_filled long_size)

pub returns-then-k-gt-MOST_NAME-2 : goal.returns-then-k-gt-MOST_NAME-2
returns-then-k-gt-MOST_NAME-2 c = search (rules, ends_filled long_size)

pub returns-then-long-eq0 : goal.returns-then-long-eq0
returns-then-long-eq0 c = search (rules, words_filled)

pub returns-else-long-eq0 : goal.returns-else-long-eq0
returns-else-long-eq0 c = search (rules, last_other long_size)
