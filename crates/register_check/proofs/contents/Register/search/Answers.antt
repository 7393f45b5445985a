use Rattle.register_check.proofs.Compared.{equal_is}
use Rattle.register_check.proofs.Searched.{found_here, other_here, behind_all}
use borrow.Author.Rules.{rules}
use Rattle.register_check.proofs.contents.Register.search.Goals as goal
use Rattle.register_check.proofs.contents.Register.search.Goals.{else-index-count-via-then-index-count+else-eq, else-index-count-via-else-index-count}

pub returns-then-eq : goal.returns-then-eq
returns-then-eq c = search (rules, found_here, equal_is)

pub returns-else-index-count : goal.returns-else-index-count
returns-else-index-count c =
    elim c.else-index-count.branch [
      | else-index-count-via-then-index-count+else-eq w ↦ search (rules, other_here, equal_is)
      | else-index-count-via-else-index-count w ↦ search (rules, behind_all)
    ]
