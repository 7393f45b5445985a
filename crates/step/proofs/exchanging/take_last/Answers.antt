use Rattle.step.proofs.RetransmissionLaws.{last_such, last_taken}
use Rattle.step.proofs.exchanging.take_last.Goals as goal

pub close-requires : goal.close-requires
close-requires c =
    last_such _ _ _ _ _ c.place_action.ensures c.requires

pub returns : goal.returns
returns c =
    last_taken _ _ _ _ _ c.place_action.ensures _
    c.requires c.close.ensures
