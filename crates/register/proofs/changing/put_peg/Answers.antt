use Rattle.register.proofs.Made.{slot_put_lem}
use borrow.Author.Rules.{rules}
use Rattle.register.proofs.changing.put_peg.Goals as goal

pub returns : goal.returns
returns c = search (rules, slot_put_lem)
