use Rattle.step.proofs.RetransmissionLaws.{next_such, zero_room, above_room, place_next, place_zero, place_above, place_below}
use Rattle.queue.proofs.WhiteLaws.{such_queue}
use borrow.Author.Rules.{rules}
use Rattle.step.proofs.exchanging.place_action.Goals as goal

pub green_length-length-requires : goal.green_length-length-requires
green_length-length-requires c = search (rules, such_queue)

pub green-requires : goal.green-requires
green-requires c =
    next_such _ _ _ _ c.requires _ c.green_length-length.ensures.computes c.if-position-length.true

pub returns-then-position-length : goal.returns-then-position-length
returns-then-position-length c =
    place_next _ _ _ _ c.requires _ c.green_length-length.ensures.computes _ c.if-position-length.true c.green.ensures

pub red-requires : goal.red-requires
red-requires c =
    zero_room _ _ _ _ c.requires _ c.green_length-length.ensures.computes c.if-position-eq0.true

pub returns-then-position-eq0 : goal.returns-then-position-eq0
returns-then-position-eq0 c =
    place_zero _ _ _ _ c.requires _ c.green_length-length.ensures.computes _ c.if-position-eq0.true c.red.ensures

pub red-requires-then-length-position : goal.red-requires-then-length-position
red-requires-then-length-position c =
    above_room _ _ _ _ c.requires _ c.green_length-length.ensures.computes c.if-length-position.true

pub returns-then-length-position : goal.returns-then-length-position
returns-then-length-position c =
    place_above _ _ _ _ c.requires _ c.green_length-length.ensures.computes _ c.if-position-length.false c.if-length-position.true c.red-then-length-position.ensures

pub returns-else-length-position : goal.returns-else-length-position
returns-else-length-position c =
    place_below _ _ _ _ c.requires _ c.green_length-length.ensures.computes c.if-position-eq0.false c.if-length-position.false
