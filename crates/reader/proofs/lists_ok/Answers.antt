use Rattle.base.proofs.BytesLaws.{given_bytes_lem}
use Rattle.reader.proofs.Fields.{lists_denied, lists_answered}
use borrow.Author.Rules.{rules}
use Rattle.reader.proofs.lists_ok.Goals as goal

pub returns-else-from-product : goal.returns-else-from-product
returns-else-from-product c = search (rules, given_bytes_lem, lists_denied)

pub returns-then-from-product : goal.returns-then-from-product
returns-then-from-product c = search (rules, given_bytes_lem, lists_answered)
