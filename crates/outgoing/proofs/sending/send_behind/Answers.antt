use borrow.Author.Rules.{rules}
use Rattle.outgoing.proofs.ResendingLaws.{all_start, all_room, all_again, all_end, sent_inside, sent_fits}
use native.Mathlib.Omega.{arith}
use Rattle.outgoing.proofs.sending.send_behind.Goals as goal

pub loop-p-init : goal.loop-p-init
loop-p-init c = (omega arith, search (rules, all_start))

pub slice_bounds-send_own-start : goal.slice_bounds-send_own-start
slice_bounds-send_own-start c = search (rules, sent_inside)

pub send_own-sent-requires : goal.send_own-sent-requires
send_own-sent-requires c = (search rules, omega arith, omega arith, search (rules, all_room))

pub overflow_add-sent : goal.overflow_add-sent
overflow_add-sent c = search (rules, sent_fits)

pub loop-p-preserved : goal.loop-p-preserved
loop-p-preserved c = (omega arith, search (rules, all_again))

pub returns : goal.returns
returns c = search (rules, all_end)
