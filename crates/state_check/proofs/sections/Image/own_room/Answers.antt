use Rattle.state_check.proofs.SectionCode.{room_told}
use borrow.Author.Rules.{rules}
use Rattle.state_check.proofs.sections.Image.own_room.Goals as goal

pub returns : goal.returns
returns c = search (rules, room_told)
