use Rattle.exchange.proofs.CommonLaws.{fits_inside, first_short, first_sought, common_made}
use borrow.Author.Rules.{rules}
use Rattle.exchange.proofs.common.common.Goals as goal

pub common_of-requires : goal.common_of-requires
common_of-requires c = (
  search rules,
  search (rules, first_sought),
  record { most = search rules; lists = search (rules, fits_inside) },
  search (rules, first_short),
)

pub returns : goal.returns
returns c = search (rules, common_made)
