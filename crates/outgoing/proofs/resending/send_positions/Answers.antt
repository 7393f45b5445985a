use borrow.Author.Rules.{rules}
use Rattle.outgoing.proofs.ResendingLaws.{sent_inside, sent_fits}
use Rattle.outgoing.proofs.WalkLaws.{walk_start, position_in, position_room, position_again, walk_end}
use native.Mathlib.Omega.{arith}
use Rattle.outgoing.proofs.resending.send_positions.Goals as goal

pub loop-p-init : goal.loop-p-init
loop-p-init c = (omega arith, search (rules, walk_start))

pub slice_bounds-send_position-start : goal.slice_bounds-send_position-start
slice_bounds-send_position-start c = search (rules, sent_inside)

pub send_position-sent-requires : goal.send_position-sent-requires
send_position-sent-requires c = (search (rules, position_in), omega arith, search (rules, position_room))

pub overflow_add-sent : goal.overflow_add-sent
overflow_add-sent c = search (rules, sent_fits)

pub loop-p-preserved : goal.loop-p-preserved
loop-p-preserved c = (omega arith, search (rules, position_again))

pub returns : goal.returns
returns c = search (rules, walk_end)
