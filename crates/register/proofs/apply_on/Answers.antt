use Rattle.register.proofs.Exported.{unreadable, operation_applied}
use borrow.Author.Rules.{rules}
use Rattle.register.proofs.apply_on.Goals as goal

pub returns-in_err-check_register : goal.returns-in_err-check_register
returns-in_err-check_register c = search (rules, unreadable)

pub returns : goal.returns
returns c = search (rules, operation_applied)
