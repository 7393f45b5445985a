use Rattle.step.proofs.StatesLaws.{part_sent}
use Rattle.outgoing.proofs.LentLaws.{lent_header}
use Rattle.step.proofs.exchanging.await_actions.Goals as goal

pub resend-requires : goal.resend-requires
resend-requires c = lent_header _ _ _ c.requires

pub returns : goal.returns
returns c =
    part_sent _ _ c.requires _ _ _
    c.send_part-sent.ensures c.resend.ensures _
    c.sent.ensures
