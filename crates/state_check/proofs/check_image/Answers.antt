use Rattle.state_check.proofs.NumberAnswer.{image_brief, image_bad, image_good}
use borrow.Author.Rules.{rules}
use Rattle.state_check.proofs.check_image.Goals as goal

pub returns-then-state_short : goal.returns-then-state_short
returns-then-state_short c = search (rules, image_brief)

pub returns-then-not-reads : goal.returns-then-not-reads
returns-then-not-reads c = search (rules, image_bad)

pub returns : goal.returns
returns c = search (rules, image_good)
