use Rattle.std.specs.Prelude.{Some}
use Rattle.install.proofs.TurnLaws.{turned_passed, turned_id, found_red, place_as}
use borrow.Author.Rules.{rules}
use Rattle.install.proofs.table.turn_green.Goals as goal

pub turn_at_place-requires : goal.turn_at_place-requires
turn_at_place-requires c = search (rules, found_red, place_as)

pub returns-in-Some : goal.returns-in-Some
returns-in-Some c =
    turned_id _ _ _ _ _ c.in-Some.k c.requires.0 (place_as (Some c.in-Some.k) _ _ _ _ c.in-Some.ensures c.reds.ensures.state c.reds.ensures.first)
    c.turn_at_place.ensures

pub returns-in_default : goal.returns-in_default
returns-in_default c = search (rules, turned_passed, place_as)
