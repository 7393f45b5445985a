use Rattle.exchange.proofs.CommonLaws.{voters_fit, taken_ids_none, taken_ids_some}
use borrow.Author.Rules.{rules}
use Rattle.exchange.proofs.common.taken_ids.Goals as goal

pub common-requires : goal.common-requires
common-requires c = search (rules, voters_fit)

pub returns-in-Some : goal.returns-in-Some
returns-in-Some c = taken_ids_some _ _ _ _ _ _ _ _ c.yellow_voters-voters.ensures c.in-Some.ensures c.common.ensures c.requires.1

pub returns-in-None : goal.returns-in-None
returns-in-None c = taken_ids_none _ _ _ _ _ c.yellow_voters-voters.ensures c.in-None.ensures
