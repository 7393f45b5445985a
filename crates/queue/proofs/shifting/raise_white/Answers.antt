use Rattle.queue.proofs.ShiftLaws.{raise_least}
use borrow.Author.Rules.{rules}
use Rattle.queue.proofs.shifting.raise_white.Goals as goal

pub returns-then-white-to : goal.returns-then-white-to
returns-then-white-to c = search (rules, raise_least)
