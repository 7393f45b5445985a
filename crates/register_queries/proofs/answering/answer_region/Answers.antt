use Rattle.register_queries.proofs.Answers.{left_buffers, left_sides, all_collected}
use borrow.Author.Rules.{rules}
use Rattle.register_queries.proofs.answering.answer_region.Goals as goal

pub returns-in_err-held : goal.returns-in_err-held
returns-in_err-held c = search (rules, left_buffers)

pub returns-in_err-check_sides : goal.returns-in_err-check_sides
returns-in_err-check_sides c = search (rules, left_sides)

pub returns : goal.returns
returns c = search (rules, all_collected)
