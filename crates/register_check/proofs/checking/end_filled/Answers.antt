use Rattle.register_check.proofs.CheckCode.{byte_filled, ends_filled, first_other, none_filled}
use borrow.Author.Rules.{rules}
use Rattle.register_check.proofs.checking.end_filled.Goals as goal

pub returns-then-num32-eq0 : goal.returns-then-num32-eq0
returns-then-num32-eq0 c = search (rules, ends_filled 4)

pub returns-else-num32-eq0 : goal.returns-else-num32-eq0
returns-else-num32-eq0 c = search (rules, first_other 4)

pub returns-then-num16-eq0 : goal.returns-then-num16-eq0
returns-then-num16-eq0 c = search (rules, ends_filled 2)

pub returns-else-num16-eq0 : goal.returns-else-num16-eq0
returns-else-num16-eq0 c = search (rules, first_other 2)

pub returns-then-k-ge-MOST_NAME : goal.returns-then-k-ge-MOST_NAME
returns-then-k-ge-MOST_NAME c = search (rules, none_filled)

pub returns-else-k-ge-MOST_NAME : goal.returns-else-k-ge-MOST_NAME
returns-else-k-ge-MOST_NAME c = search (rules, byte_filled)
