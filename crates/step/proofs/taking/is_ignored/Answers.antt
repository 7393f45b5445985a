use Rattle.step.proofs.IgnoredLaws.{state_told, cpc_told, other_told}
use borrow.Author.Rules.{rules}
use Rattle.step.proofs.taking.is_ignored.Goals as goal

pub returns-in-State : goal.returns-in-State
returns-in-State c = search (rules, state_told)

pub returns-in-Cpc : goal.returns-in-Cpc
returns-in-Cpc c = search (rules, cpc_told)

pub returns-in_default : goal.returns-in_default
returns-in_default c = other_told _ _ c.in_default.not-State c.in_default.not-Cpc
