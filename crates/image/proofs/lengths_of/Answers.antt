use Rattle.image.specs.Outcome.{lengths_of}
use Rattle.base.proofs.Branches.{pick_answered, pick_denied}
use Rattle.image.proofs.SizeLaws.{sizes_answered, lengths_made}
use borrow.Author.Rules.{rules}
use Rattle.image.proofs.lengths_of.Goals as goal

pub returns-then-not-sizes_ok : goal.returns-then-not-sizes_ok
unfolding lengths_of
returns-then-not-sizes_ok c = search (rules, pick_denied)

pub invariant_of-sizes : goal.invariant_of-sizes
invariant_of-sizes c = search (rules, sizes_answered)

pub returns : goal.returns
unfolding lengths_of
returns c = search (rules, pick_answered, lengths_made)
