use Rattle.register_queries.proofs.Collected.{none_collected, passed_over, copy_room, collected_next, collected_all}
use borrow.Author.Rules.{rules}
use Rattle.register_queries.proofs.collecting.collect.Goals as goal
use Rattle.register_queries.proofs.collecting.collect.Goals.{then-contains, else-contains}

pub loop-index-init : goal.loop-index-init
loop-index-init c = search (rules, none_collected)

pub copy-requires : goal.copy-requires
copy-requires c = search (rules, copy_room)

pub loop-index-preserved : goal.loop-index-preserved
loop-index-preserved c =
    elim c.if-contains.branch [
      | then-contains w ↦ rw (w.answer-is, w.found-is) (search (rules, collected_next))
      | else-contains w ↦ rw (w.answer-is, w.found-is) (search (rules, passed_over))
    ]

pub returns : goal.returns
returns c = search (rules, collected_all)
