use Rattle.register_queries.proofs.Answers.{sides_within, sides_good, sides_bad}
use borrow.Author.Rules.{rules}
use Rattle.register_queries.proofs.answering.check_sides.Goals as goal

pub returns-in_default : goal.returns-in_default
returns-in_default c = search (rules, sides_within)

pub returns-then-sides_rise : goal.returns-then-sides_rise
returns-then-sides_rise c = search (rules, sides_good)

pub returns-else-sides_rise : goal.returns-else-sides_rise
returns-else-sides_rise c = search (rules, sides_bad)
