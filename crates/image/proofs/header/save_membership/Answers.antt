use Rattle.image.proofs.Saved.{membership_saved}
use borrow.Author.Rules.{rules}
use Rattle.image.proofs.header.save_membership.Goals as goal

pub returns : goal.returns
returns c = search (rules, membership_saved)
