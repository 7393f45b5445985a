use borrow.Author.Rules.{rules}
use native.Mathlib.Omega.{arith}
use Rattle.exchange.proofs.RaiseLaws.{list_start, list_again, list_end}
use Rattle.exchange.proofs.first_list.FirstList.raise_list.Goals as goal

pub loop-j-init : goal.loop-j-init
loop-j-init c = search (rules, list_start)

pub overflow_mul-j : goal.overflow_mul-j
overflow_mul-j c = omega arith

pub overflow_add-at : goal.overflow_add-at
overflow_add-at c = omega arith

pub loop-j-preserved : goal.loop-j-preserved
loop-j-preserved c = search (rules, list_again)

pub returns : goal.returns
returns c = search (rules, list_end)
