use Rattle.state_check.proofs.SectionCode.{slots_space}
use Rattle.state_check.proofs.CheckCode.{exchange_told, exchange_denied}
use mathlib.Core.Path.{refl}
use borrow.Author.Rules.{rules}
use Rattle.state_check.proofs.exchange_ok.Goals as goal

pub collected-states-requires : goal.collected-states-requires
collected-states-requires c = (record { servers = c.args.image.now.ready.context.most; quota = c.args.image.now.ready.context.largest }, slots_space _ _ c.args.image.now.ready _ _ refl)

pub returns-then-inside : goal.returns-then-inside
returns-then-inside c = search (rules, exchange_told)

pub returns-else-inside : goal.returns-else-inside
returns-else-inside c = search (rules, exchange_denied)
