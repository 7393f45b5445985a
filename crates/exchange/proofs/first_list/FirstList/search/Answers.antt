use mathlib.Core.Path.{sym}
use native.Mathlib.Omega.{arith}
use borrow.Author.Rules.{rules}
use Rattle.exchange.proofs.PlaceLaws.{search_start, search_found, search_again, search_end}
use Rattle.exchange.proofs.first_list.FirstList.search.Goals as goal

pub loop-k-init : goal.loop-k-init
loop-k-init c = search (rules, search_start)

pub returns-then-is_at : goal.returns-then-is_at
returns-then-is_at c =
    (search_found _ _ _ _ _ c.loop-k.invariant _ c.loop-k-test.true c.is_at.ensures c.if-is_at.true, c.loop-k-test.true)

pub loop-k-preserved : goal.loop-k-preserved
loop-k-preserved c = search_again _ _ _ _ _ c.loop-k.invariant _ c.loop-k-test.true c.is_at.ensures c.if-is_at.false

pub returns : goal.returns
returns c = sym (search_end _ _ _ _ _ c.loop-k.invariant (omega arith) (omega arith))
