use Rattle.record.proofs.Turns.{small}
use Rattle.exchange.proofs.HintLaws.{hint_inside, hint_offset, hint_none, hint_left}
use borrow.Author.Rules.{rules}
use Rattle.exchange.proofs.table.leave_hint.Goals as goal

pub returns-in_default : goal.returns-in_default
returns-in_default c = search (rules, hint_none)

pub offset_bounds-t-p : goal.offset_bounds-t-p
offset_bounds-t-p c = search (rules, hint_offset, small)

pub bounds-t-p : goal.bounds-t-p
bounds-t-p c = search (rules, hint_inside, small)

pub returns : goal.returns
returns c = search (rules, hint_left)
