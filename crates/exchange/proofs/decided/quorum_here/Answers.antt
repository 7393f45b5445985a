use native.Mathlib.Omega.{arith}
use Rattle.image.proofs.InPlace.{such_header}
use Rattle.exchange.proofs.DecidedLaws.{room_held, quorum_held, quorum_told}
use Rattle.exchange.proofs.decided.quorum_here.Goals as goal

pub new-judging-requires : goal.new-judging-requires
new-judging-requires c = room_held _ _ c.requires _ c.held.ensures.slots _ c.held.ensures.bytes

pub num8-requires : goal.num8-requires
num8-requires c = omega (arith, such_header _ _ c.requires)

pub returns : goal.returns
returns c =
    quorum_told _ _ _ c.held.ensures.slots c.held.ensures.bytes _ _ c.num8.ensures
    (quorum_held _ _ _ _ _ _ c.new-judging.ensures.slots c.new-judging.ensures.bytes c.quorum.ensures)
