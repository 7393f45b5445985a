use Rattle.updates.proofs.RecoveryLaws.{own_inside, highest_start, highest_again, highest_end}
use Rattle.image.proofs.Counts.{such_counts}
use Rattle.image.proofs.InPlace.{such_header}
use native.Mathlib.Omega.{arith}
use borrow.Author.Rules.{rules}
use Rattle.updates.proofs.recovery.highest_white.Goals as goal

pub place_of-at-requires : goal.place_of-at-requires
place_of-at-requires c = search (rules, such_counts)

pub num16-own-requires : goal.num16-own-requires
num16-own-requires c = omega (arith, such_header _ _ c.requires)

pub loop-k-init : goal.loop-k-init
loop-k-init c = search (rules, own_inside, highest_start)

pub loop-k-preserved : goal.loop-k-preserved
loop-k-preserved c = (omega arith, omega arith, highest_again _ _ _ _ _ _ _ _ c.loop-k-test.true c.num32-length.ensures c.max-high.ensures c.loop-k.invariant.2)

pub returns : goal.returns
returns c = search (rules, highest_end)
