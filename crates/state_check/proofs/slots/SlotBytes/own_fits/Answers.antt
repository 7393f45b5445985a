use Rattle.state_check.proofs.SlotCode.{own_start, own_again, own_denied, own_end_lem}
use borrow.Author.Rules.{rules}
use Rattle.state_check.proofs.slots.SlotBytes.own_fits.Goals as goal

pub loop-i-init : goal.loop-i-init
loop-i-init c = search (rules, own_start)

pub returns-then-not-own_slot_fits : goal.returns-then-not-own_slot_fits
returns-then-not-own_slot_fits c = search (rules, own_denied)

pub loop-i-preserved : goal.loop-i-preserved
loop-i-preserved c = search (rules, own_again)

pub returns : goal.returns
returns c = search (rules, own_end_lem)
