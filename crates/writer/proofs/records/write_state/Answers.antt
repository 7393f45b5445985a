use Rattle.writer.proofs.StateLaws.{few_cuts, few_ids, state_full, state_next}
use borrow.Author.Rules.{rules}
use Rattle.writer.proofs.records.write_state.Goals as goal
use Rattle.writer.proofs.records.write_state.Goals.{then-cuts-n-via-then-cuts-n, then-cuts-n-via-else-cuts-n+then-ids-m, then-cuts-n-via-else-cuts-n+else-ids-m+then-rest-n}

pub returns-then-cuts-n : goal.returns-then-cuts-n
returns-then-cuts-n c =
    elim c.then-cuts-n.branch [
      | then-cuts-n-via-then-cuts-n w ↦ search (rules, few_cuts)
      | then-cuts-n-via-else-cuts-n+then-ids-m w ↦ search (rules, few_ids)
      | then-cuts-n-via-else-cuts-n+else-ids-m+then-rest-n w ↦ search (rules, state_full)
    ]

pub returns : goal.returns
returns c = search (rules, state_next)
