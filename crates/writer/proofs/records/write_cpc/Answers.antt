use Rattle.writer.proofs.RecordLaws.{cpc_full, cpc_next}
use Rattle.format.specs.Types.{kind_number}
use borrow.Author.Rules.{rules}
use Rattle.writer.proofs.records.write_cpc.Goals as goal

pub returns-then-rest-lt-CPC_SIZE : goal.returns-then-rest-lt-CPC_SIZE
returns-then-rest-lt-CPC_SIZE c = search (rules, cpc_full)

pub returns : goal.returns
unfolding kind_number
returns c = search (rules, cpc_next)
