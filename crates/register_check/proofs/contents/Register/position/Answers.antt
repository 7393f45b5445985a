use Rattle.register_check.proofs.Compared.{less_before}
use Rattle.register_check.proofs.Searched.{between_first, upper_half, lower_half}
use borrow.Author.Rules.{rules}
use Rattle.register_check.proofs.contents.Register.position.Goals as goal

pub loop-low-init : goal.loop-low-init
loop-low-init c = search (rules, between_first)

pub loop-low-preserved-then-lt : goal.loop-low-preserved-then-lt
loop-low-preserved-then-lt c = search (rules, upper_half, less_before)

pub loop-low-preserved : goal.loop-low-preserved
loop-low-preserved c = search (rules, lower_half, less_before)
