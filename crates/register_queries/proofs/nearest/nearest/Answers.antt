use Rattle.register_queries.proofs.Answers.{nearest_empty}
use Rattle.register_queries.proofs.Along.{along_first, along_nearer, along_still, along_end}
use borrow.Author.Rules.{rules}
use Rattle.register_queries.proofs.nearest.nearest.Goals as goal
use Rattle.register_queries.proofs.nearest.nearest.Goals.{then-distance-least, else-distance-least}

pub returns-then-count-eq0 : goal.returns-then-count-eq0
returns-then-count-eq0 c = search (rules, nearest_empty)

pub loop-index-init : goal.loop-index-init
loop-index-init c = search (rules, along_first)

pub loop-index-preserved : goal.loop-index-preserved
loop-index-preserved c =
    elim c.if-distance-least.branch [
      | then-distance-least w ↦ rw (w.best-is, w.least-is) (search (rules, along_nearer))
      | else-distance-least w ↦ rw (w.best-is, w.least-is) (search (rules, along_still))
    ]

pub returns : goal.returns
returns c = search (rules, along_end)
