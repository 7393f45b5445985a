use Rattle.register.proofs.Exported.{start_short, start_made}
use borrow.Author.Rules.{rules}
use Rattle.register.proofs.start.Goals as goal

pub returns-then-register-lt-REGISTER_LENGTH : goal.returns-then-register-lt-REGISTER_LENGTH
returns-then-register-lt-REGISTER_LENGTH c = search (rules, start_short)

pub returns : goal.returns
returns c = search (rules, start_made)
