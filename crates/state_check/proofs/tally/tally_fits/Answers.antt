use Rattle.state_check.proofs.TallyCode.{fits_denied, fits_again, fits_end}
use borrow.Author.Rules.{rules}
use Rattle.state_check.proofs.tally.tally_fits.Goals as goal

pub returns-then-c-t : goal.returns-then-c-t
returns-then-c-t c = search (rules, fits_denied)

pub loop-k-preserved : goal.loop-k-preserved
loop-k-preserved c = search (rules, fits_again)

pub returns : goal.returns
returns c = search (rules, fits_end)
