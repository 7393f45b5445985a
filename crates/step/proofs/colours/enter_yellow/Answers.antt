use Rattle.step.proofs.ColoursLaws.{next_room, join_room, yellow_joined}
use borrow.Author.Rules.{rules}
use Rattle.step.proofs.colours.enter_yellow.Goals as goal

pub enter-requires : goal.enter-requires
enter-requires c = search (rules, next_room)

pub join_yellow-requires : goal.join_yellow-requires
join_yellow-requires c =
    join_room _ _ _ _
    c.requires
    c.enter.ensures

pub returns : goal.returns
returns c =
    yellow_joined _ _ _ _ _
    c.requires
    c.enter.ensures
    c.join_yellow.ensures
