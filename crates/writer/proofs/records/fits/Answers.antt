use borrow.Author.Rules.{rules}
use Rattle.writer.proofs.RecordLaws.{fits_not, fits_rest}
use Rattle.writer.proofs.records.fits.Goals as goal

pub returns-then-size-length : goal.returns-then-size-length
returns-then-size-length c = search (rules, fits_rest)

pub returns-else-size-length : goal.returns-else-size-length
returns-else-size-length c = search (rules, fits_not)
