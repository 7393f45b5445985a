use Rattle.image.proofs.Saved.{counts_saved}
use borrow.Author.Rules.{rules}
use Rattle.image.proofs.header.save_counts.Goals as goal

pub returns : goal.returns
returns c = search (rules, counts_saved)
