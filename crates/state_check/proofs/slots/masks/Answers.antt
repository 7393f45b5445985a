use Rattle.state_check.proofs.Gathered.{masks_start}
use borrow.Author.Rules.{rules}
use Rattle.state_check.proofs.slots.masks.Goals as goal

pub loop-j-init : goal.loop-j-init
loop-j-init c = search (rules, masks_start)
