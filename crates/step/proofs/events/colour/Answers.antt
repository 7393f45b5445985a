use Rattle.step.proofs.ActionLaws.{placed_taken, red_taken, green_done, yellow_done, red_done}
use borrow.Author.Rules.{rules}
use Rattle.step.proofs.events.colour.Goals as goal

pub green_and_note-requires : goal.green_and_note-requires
green_and_note-requires c = search (rules, placed_taken)

pub yellow-requires : goal.yellow-requires
yellow-requires c = search (rules, placed_taken)

pub red-requires : goal.red-requires
red-requires c = search (rules, red_taken)

pub returns-in-1 : goal.returns-in-1
returns-in-1 c = search (rules, green_done)

pub returns-in-2 : goal.returns-in-2
returns-in-2 c = search (rules, yellow_done)

pub returns-in_default : goal.returns-in_default
returns-in_default c = search (rules, red_done)
