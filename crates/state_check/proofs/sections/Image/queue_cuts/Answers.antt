use Rattle.state_check.proofs.SectionCode.{cuts_inside, cuts_answered}
use native.Mathlib.Omega.{arith}
use borrow.Author.Rules.{rules}
use Rattle.state_check.proofs.sections.Image.queue_cuts.Goals as goal

pub sum_of-requires : goal.sum_of-requires
sum_of-requires c = (omega (arith, c.args.self.now.ready.context.most), cuts_inside _ _ c.args.self.now.ready)

pub returns : goal.returns
returns c = search (rules, cuts_answered)
