use Rattle.register_check.proofs.CheckCode.{number_eight, number_nought, number_seven}
use borrow.Author.Rules.{rules}
use Rattle.register_check.proofs.checking.check_register.Goals as goal

pub returns-then-register-lt-REGISTER_LENGTH : goal.returns-then-register-lt-REGISTER_LENGTH
returns-then-register-lt-REGISTER_LENGTH c = search (rules, number_seven)

pub returns-then-not-register_reads : goal.returns-then-not-register_reads
returns-then-not-register_reads c = search (rules, number_eight)

pub returns : goal.returns
returns c = search (rules, number_nought)
