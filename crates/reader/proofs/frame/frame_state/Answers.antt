use native.Mathlib.Omega.{arith}
use Rattle.reader.proofs.Frames.{state_short_lem, state_bad, state_good}
use borrow.Author.Rules.{rules}
use Rattle.reader.proofs.frame.frame_state.Goals as goal

pub returns-then-e-at : goal.returns-then-e-at
returns-then-e-at c = search (rules, state_short_lem)

pub returns-then-at-from : goal.returns-then-at-from
returns-then-at-from c = state_bad _ _ _ _ _ c.state_head-head.ensures c.if-at-from.true c.from-2.ensures (omega arith)

pub returns : goal.returns
returns c = state_good _ _ _ _ _ c.state_head-head.ensures c.if-at-from.false c.from-2.ensures (omega arith)
