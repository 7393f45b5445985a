use Rattle.outgoing.proofs.PlanLaws.{stated_creator, red_none, part_room, red_high, red_sent}
use borrow.Author.Rules.{rules}
use Rattle.outgoing.proofs.resending.send_red.Goals as goal

pub resends_red-requires : goal.resends_red-requires
resends_red-requires c = stated_creator _ _ (search rules) (search rules)

pub returns-in_default : goal.returns-in_default
returns-in_default c = search (rules, red_none)

pub send_creator-requires : goal.send_creator-requires
send_creator-requires c =
    let e = c.resends_red.ensures in (
      record { tabled = search rules; creator = search rules; most = red_high _ _ _ e (search rules) _ c.in-Own.is },
      search (rules, part_room _ _ _ e),
    )

pub returns : goal.returns
returns c = search (rules, red_sent)
