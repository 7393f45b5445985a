use Rattle.step.proofs.RaiseLaws.{raise_due, raise_none}
use borrow.Author.Rules.{rules}
use Rattle.step.proofs.taking.raise.Goals as goal

pub returns-then-raises : goal.returns-then-raises
returns-then-raises c = search (rules, raise_due)

pub returns-else-raises : goal.returns-else-raises
returns-else-raises c = search (rules, raise_none)
