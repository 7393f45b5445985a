use Rattle.step.proofs.RetransmissionLaws.{more_some, more_taken}
use Rattle.step.proofs.exchanging.take_in.Goals as goal

pub one_more-requires : goal.one_more-requires
one_more-requires c =
    more_some _ _ _ _ _ c.place_action.ensures c.requires

pub returns : goal.returns
returns c =
    more_taken _ _ _ _ _ c.place_action.ensures _
    c.requires c.one_more.ensures
