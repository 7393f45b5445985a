use Rattle.state_check.proofs.NumberAnswer.{header_long, context_long, sizes_unread, read_told}
use Rattle.base.proofs.BytesLaws.{given_bytes_lem}
use borrow.Author.Rules.{rules}
use Rattle.state_check.proofs.reads.Goals as goal

pub load-h-requires : goal.load-h-requires
load-h-requires c = search (rules, header_long)

pub checks_ok-requires : goal.checks_ok-requires
checks_ok-requires c = search (rules, context_long, given_bytes_lem)

pub returns-then-sizes_ok : goal.returns-then-sizes_ok
returns-then-sizes_ok c = search (rules, read_told, given_bytes_lem)

pub returns-else-sizes_ok : goal.returns-else-sizes_ok
returns-else-sizes_ok c = search (rules, sizes_unread)
