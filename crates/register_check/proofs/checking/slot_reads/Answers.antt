use Rattle.register_check.proofs.CheckCode.{fits_most, name_filled, name_unfit}
use native.Mathlib.Omega.{arith}
use borrow.Author.Rules.{rules}
use Rattle.register_check.proofs.checking.slot_reads.Goals as goal

pub returns-then-name_fits : goal.returns-then-name_fits
returns-then-name_fits c = search (rules, name_filled)

pub returns-else-name_fits : goal.returns-else-name_fits
returns-else-name_fits c = search (rules, name_unfit)

pub filled-requires : goal.filled-requires
filled-requires c = (search (rules, fits_most), omega arith)
