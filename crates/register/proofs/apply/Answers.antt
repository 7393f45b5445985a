use Rattle.register.proofs.Applied.{none_applied, some_applied}
use borrow.Author.Rules.{rules}
use Rattle.register.proofs.apply.Goals as goal

pub returns-in-None : goal.returns-in-None
returns-in-None c = search (rules, none_applied)

pub returns-in-Some-Set : goal.returns-in-Some-Set
returns-in-Some-Set c = search (rules, some_applied)

pub returns-in-Some-Move : goal.returns-in-Some-Move
returns-in-Some-Move c = search (rules, some_applied)

pub returns-in-Some-Retire : goal.returns-in-Some-Retire
returns-in-Some-Retire c = search (rules, some_applied)
