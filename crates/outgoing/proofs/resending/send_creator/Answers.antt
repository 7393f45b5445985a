use borrow.Author.Rules.{rules}
use Rattle.outgoing.proofs.ResendingLaws.{sent_inside, sent_fits}
use Rattle.outgoing.proofs.WalkLaws.{walk_start, reds_cut, red_room, red_again, walk_end}
use native.Mathlib.Omega.{arith}
use Rattle.outgoing.proofs.resending.send_creator.Goals as goal

pub loop-i-init : goal.loop-i-init
loop-i-init c = (omega arith, omega arith, search (rules, walk_start))

pub returns-in_default : goal.returns-in_default
returns-in_default c = reds_cut _ _ _ _ _ _ _ _ _ (omega arith) c.loop-i.invariant.2 c.loop-i-test.true c.in_default.ensures

pub slice_bounds-send_slot-start : goal.slice_bounds-send_slot-start
slice_bounds-send_slot-start c = search (rules, sent_inside)

pub send_slot-sent-requires : goal.send_slot-sent-requires
send_slot-sent-requires c =
    let n = c.in-Some.ensures in
    (search rules, n.there, red_room _ _ _ _ _ _ _ _ _ (omega arith) c.loop-i.invariant.2 _ n (search rules))

pub overflow_add-sent : goal.overflow_add-sent
overflow_add-sent c = search (rules, sent_fits)

pub loop-i-preserved : goal.loop-i-preserved
loop-i-preserved c =
    let n = c.in-Some.ensures in (
      omega (arith, n.over),
      omega (arith, n.over, n.most),
      search (rules, red_again _ _ _ _ _ _ _ _ _ (omega arith) c.loop-i.invariant.2 _ n _ c.from-i.ensures),
    )

pub returns-after-loop-i : goal.returns-after-loop-i
returns-after-loop-i c = search (rules, walk_end)
