use Rattle.install.proofs.TurnLaws.{place_searched, place_absent, searched_fits}
use borrow.Author.Rules.{rules}
use Rattle.install.proofs.table.Lookup.searched.Goals as goal

pub returns-in_err-k : goal.returns-in_err-k
returns-in_err-k c = search (rules, place_absent)

pub overflow_add-result : goal.overflow_add-result
overflow_add-result c = search (rules, searched_fits)

pub returns : goal.returns
returns c = search (rules, place_searched)
