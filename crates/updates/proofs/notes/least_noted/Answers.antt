use Rattle.updates.proofs.NoteLaws.{some_noted, noted_inside, first_inside, least_start, least_again, least_end}
use Rattle.image.proofs.Counts.{such_counts}
use Rattle.image.proofs.InPlace.{such_header}
use native.Mathlib.Omega.{arith}
use borrow.Author.Rules.{rules}
use Rattle.updates.proofs.notes.least_noted.Goals as goal

pub place_of-at-requires : goal.place_of-at-requires
place_of-at-requires c = search (rules, such_counts)

pub num8-servers-requires : goal.num8-servers-requires
num8-servers-requires c = omega (arith, such_header _ _ c.requires)

pub num32-low-requires : goal.num32-low-requires
num32-low-requires c = search (rules, first_inside)

pub loop-k-init : goal.loop-k-init
loop-k-init c = search (rules, some_noted, noted_inside, least_start)

pub loop-k-preserved : goal.loop-k-preserved
loop-k-preserved c = search (rules, least_again)

pub returns : goal.returns
returns c = search (rules, least_end)
