use Rattle.register_step.proofs.MetCarry.{some_queue, met_ready, met_done}
use borrow.Author.Rules.{rules}
use Rattle.register_step.proofs.carrying.carry_met.Goals as goal

pub green_length-from-requires : goal.green_length-from-requires
green_length-from-requires c = search (rules, some_queue)

pub carry-requires : goal.carry-requires
carry-requires c =
    met_ready _ _ _ c.requires.0 c.requires.1 _ c.green_length-from.ensures.value.0 _ c.meet.ensures

pub returns : goal.returns
returns c =
    met_done _ _ _ c.requires.0 c.requires.1 _ c.green_length-from.ensures.value.0 _ c.meet.ensures _ _ (c.carry.ensures.register_after, c.carry.ensures.carries_on)
