use Rattle.register_queries.proofs.Answers.{both_short, read_number}
use borrow.Author.Rules.{rules}
use Rattle.register_queries.proofs.answering.check_buffers.Goals as goal

pub returns-then-answer-lt-REGISTER_LENGTH-clause-number : goal.returns-then-answer-lt-REGISTER_LENGTH-clause-number
returns-then-answer-lt-REGISTER_LENGTH-clause-number c = search (rules, both_short)

pub returns-clause-number : goal.returns-clause-number
returns-clause-number c = search (rules, read_number)
