use Rattle.state_check.proofs.CollectedCode.{count_inside, record-inside, slot_denied, slot_answered}
use borrow.Author.Rules.{rules}
use Rattle.state_check.proofs.collected.holds_state.Goals as goal

pub num16-count-requires : goal.num16-count-requires
num16-count-requires c = search (rules, count_inside)

pub returns-then-not-count_ok : goal.returns-then-not-count_ok
returns-then-not-count_ok c = search (rules, slot_denied)

pub slice_bounds-read-end : goal.slice_bounds-read-end
slice_bounds-read-end c = search (rules, record-inside)

pub returns : goal.returns
returns c = search (rules, slot_answered)
