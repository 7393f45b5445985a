use Rattle.install.proofs.TurnLaws.{turned_swapped}
use borrow.Author.Rules.{rules}
use Rattle.install.proofs.table.turn_at_place.Goals as goal

pub returns : goal.returns
returns c = search (rules, turned_swapped)
