use mathlib.Core.Path.{sym, ◌∙◌}
use Rattle.queue.proofs.Promoted.{slot_known, green_taken, green_passed}
use native.Mathlib.Omega.{arith}
use borrow.Author.Rules.{rules}
use Rattle.queue.proofs.greening.green_id.Goals as goal

pub promote-requires : goal.promote-requires
promote-requires c = (search (rules, slot_known), omega arith)

pub returns-in-Some : goal.returns-in-Some
returns-in-Some c =
    green_taken _ _ _ (sym c.in-Some.is ∙ c.red_place.ensures) _ _ _ c.num32-green.ensures c.place_of.ensures c.promote.ensures

pub returns-in_default : goal.returns-in_default
returns-in_default c = search (rules, green_passed)
