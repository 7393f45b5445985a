use Rattle.std.proofs.Common.{rules}
use Rattle.replay.proofs.ReadingLaws.{serving_starts, serving_on, serving_ends, serving_served}
use Rattle.replay.proofs.serve.Goals as goal

pub loop-left-init : goal.loop-left-init
loop-left-init c = serving_starts _ _ _ _ c.new.ensures.table c.new.ensures.servers c.new.ensures.event c.refill.ensures

pub returns-then-not-advance : goal.returns-then-not-advance
returns-then-not-advance c = serving_ends _ _ _ _ c.loop-left.invariant _ c.advance.ensures c.if-not-advance.true

pub loop-left-preserved : goal.loop-left-preserved
loop-left-preserved c = serving_on _ _ _ _ c.loop-left.invariant _ c.advance.ensures c.if-not-advance.false

pub returns : goal.returns
returns c = serving_served _ _ _ c.loop-left.invariant
