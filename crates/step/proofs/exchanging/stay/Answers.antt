use Rattle.step.proofs.EndLaws.{stay_lent, stay_sent}
use borrow.Author.Rules.{rules}
use Rattle.step.proofs.exchanging.stay.Goals as goal

pub send_all-requires : goal.send_all-requires
send_all-requires c = search (rules, stay_lent)

pub returns : goal.returns
returns c =
    stay_sent _ _
    c.requires
    _ c.decide_all.ensures
    _ _ _ c.send_all.ensures
