use native.Mathlib.Omega.{arith}
use Rattle.image.proofs.InPlace.{such_header}
use Rattle.exchange.proofs.DecidedLaws.{room_held, taken_held, own_held, votes_told}
use Rattle.exchange.proofs.decided.taken_votes.Goals as goal

pub num8-me-requires : goal.num8-me-requires
num8-me-requires c = omega (arith, such_header _ _ c.requires)

pub new-judging-requires : goal.new-judging-requires
new-judging-requires c = room_held _ _ c.requires _ c.held-states.ensures.slots _ c.held-states.ensures.bytes

pub returns : goal.returns
returns c =
    votes_told _ _ _ c.held-states.ensures.slots c.held-states.ensures.bytes _ _ _ _ _ c.num8-me.ensures
    (taken_held _ _ _ _ _ c.new-judging.ensures.slots c.new-judging.ensures.bytes c.new-judging.result.is_taken)
    (own_held _ _ _ _ _ _ c.new-judging.ensures.slots c.new-judging.ensures.bytes c.own_mark-mark.ensures)
    c.taken_attempt.ensures
    c.yellow_status.ensures
