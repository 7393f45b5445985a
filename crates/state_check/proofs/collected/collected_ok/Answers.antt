use Rattle.state_check.proofs.CollectedCode.{slots_left, first_left, rest_left, collected_start, collected_again, collected_denied, collected_end}
use mathlib.Core.Path.{ap}
use mathlib.Core.Bool.{not}
use native.Mathlib.Omega.{arith}
use borrow.Author.Rules.{rules}
use Rattle.state_check.proofs.collected.collected_ok.Goals as goal

pub loop-k-init : goal.loop-k-init
loop-k-init c = search (rules, slots_left, collected_start)

pub collected_at-requires : goal.collected_at-requires
collected_at-requires c = search (rules, first_left)

pub returns-then-not-collected_at : goal.returns-then-not-collected_at
returns-then-not-collected_at c = search (rules, collected_denied)

pub loop-k-preserved : goal.loop-k-preserved
loop-k-preserved c = (
  search (rules, rest_left),
  collected_again _ _ _ _ _ _ _ _ _ c.loop-k.invariant.1 (omega arith) c.collected_at.ensures (ap not c.if-not-collected_at.false) c.state_size-size.ensures.0,
)

pub returns : goal.returns
returns c = search (rules, collected_end)
