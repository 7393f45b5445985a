use Rattle.queue.proofs.WhiteLaws.{such_queue}
use Rattle.updates.proofs.WhiteLaws.{made_white}
use borrow.Author.Rules.{rules}
use Rattle.updates.proofs.white.whiten.Goals as goal

pub raise_white-requires : goal.raise_white-requires
raise_white-requires c = search (rules, such_queue)

pub returns : goal.returns
returns c = search (rules, made_white)
