use borrow.Author.Rules.{rules}
use Rattle.exchange.proofs.DecidedLaws.{part_own, part_others}
use Rattle.exchange.proofs.states.States.part.Goals as goal

pub returns-then-resends : goal.returns-then-resends
returns-then-resends g c =
    λ n s. let z = c.resends.ensures n s in let y = c.lowest.ensures n s in let x = c.highest.ensures n s in search (rules, part_own)

pub returns-else-resends : goal.returns-else-resends
returns-else-resends g c =
    λ n s. let z = c.resends.ensures n s in let y = c.lowest.ensures n s in let x = c.highest.ensures n s in search (rules, part_others)
