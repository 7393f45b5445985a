use Rattle.image.proofs.Counts.{such_counts}
use Rattle.image.proofs.InPlace.{such_header}
use Rattle.updates.proofs.WhiteLaws.{full_told}
use native.Mathlib.Omega.{arith}
use borrow.Author.Rules.{rules}
use Rattle.updates.proofs.white.is_full.Goals as goal

pub num16-q-requires : goal.num16-q-requires
num16-q-requires c = omega (arith, such_header _ _ c.requires)

pub count_of-requires : goal.count_of-requires
count_of-requires c = search (rules, such_counts)

pub returns : goal.returns
returns c = search (rules, full_told)
