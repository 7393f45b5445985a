use Rattle.register_check.proofs.CheckCode.{many_denied, slots_answered}
use Rattle.base.proofs.BytesLaws.{given_bytes_lem}
use borrow.Author.Rules.{rules}
use Rattle.register_check.proofs.checking.register_reads.Goals as goal

pub slots_read-requires : goal.slots_read-requires
slots_read-requires c = search (rules, given_bytes_lem)

pub returns-then-count-le-MOST_PEGS : goal.returns-then-count-le-MOST_PEGS
returns-then-count-le-MOST_PEGS c = search (rules, given_bytes_lem, slots_answered)

pub returns-else-count-le-MOST_PEGS : goal.returns-else-count-le-MOST_PEGS
returns-else-count-le-MOST_PEGS c = search (rules, given_bytes_lem, many_denied)
