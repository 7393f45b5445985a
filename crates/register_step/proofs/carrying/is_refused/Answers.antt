use Rattle.register_step.proofs.CarryLaws.{one_applied}
use borrow.Author.Rules.{rules}
use Rattle.register_step.proofs.carrying.is_refused.Goals as goal

pub returns : goal.returns
returns c = one_applied _ _ _ _ _ (search rules) c.apply.result c.apply.ensures _ c.is_err.ensures.value
