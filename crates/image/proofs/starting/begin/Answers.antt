use Rattle.image.proofs.StartLaws.{start_made, save_room, clear_room}
use borrow.Author.Rules.{rules}
use Rattle.image.proofs.starting.begin.Goals as goal

pub save-requires : goal.save-requires
save-requires c = search (rules, save_room)

pub clear-requires : goal.clear-requires
clear-requires c = search (rules, clear_room)

pub returns : goal.returns
returns c = search (rules, start_made)
