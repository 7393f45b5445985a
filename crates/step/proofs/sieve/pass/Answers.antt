use Rattle.step.proofs.SieveLaws.{sift_kept, sift_beyond}
use borrow.Author.Rules.{rules}
use Rattle.step.proofs.sieve.pass.Goals as goal

pub returns-then-not-take : goal.returns-then-not-take
returns-then-not-take c = search (rules, sift_kept)

pub returns : goal.returns
returns c = search (rules, sift_beyond)
