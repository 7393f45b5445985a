use Rattle.std.proofs.Common.{rules}
use Rattle.replay.proofs.ReadingLaws.{left_room, advanced_last, advanced}
use Rattle.replay.proofs.Standing.advance.Goals as goal

pub refill-self-requires : goal.refill-self-requires
refill-self-requires c = search (rules, left_room)

pub returns-in-Some : goal.returns-in-Some
returns-in-Some c = advanced _ _ c.in-Some.ensures.servers _ _ c.in-Some.ensures.printed c.refill-self.ensures

pub returns-in-None : goal.returns-in-None
returns-in-None c = advanced_last _ _ c.in-None.ensures.servers c.in-None.ensures.printed
