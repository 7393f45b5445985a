use borrow.Author.Rules.{rules}
use Rattle.queries.specs.Queries.{no_summary}
use Rattle.queries.proofs.Summary.refused.Goals as goal

pub returns : goal.returns
unfolding no_summary
returns c = search rules
