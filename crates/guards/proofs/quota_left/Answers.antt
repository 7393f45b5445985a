use native.Mathlib.Omega.{arith}
use mathlib.Core.Path.{sym, ◌∙◌}
use borrow.Author.Tests.{leb-false}
use Rattle.guards.proofs.RowsLaws.{quota_entered, quota_waiting, quota_told}
use borrow.Author.Rules.{rules}
use Rattle.guards.proofs.quota_left.Goals as goal
use Rattle.guards.proofs.quota_left.Goals.{then-own-q, else-own-q}

pub returns-then-from-q : goal.returns-then-from-q
returns-then-from-q c = search (rules, quota_told)

pub returns-else-from-q : goal.returns-else-from-q
returns-else-from-q c s e f = elim c.if-own-q.branch [
  | then-own-q w ↦ c.if-from-q.false ∙ quota_waiting c.args.h c.args.own (omega (arith, leb-false _ _ (sym w.value-is ∙ c.if-from-q.false))) s e f
  | else-own-q w ↦ c.if-from-q.false ∙ quota_entered c.args.h c.args.own (omega arith) s e f
]
