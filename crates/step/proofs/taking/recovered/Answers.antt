use Rattle.step.proofs.TakingLaws.{recovery_ready, recovery_done}
use Rattle.image.proofs.InPlace.{such_some}
use Rattle.queue.proofs.WhiteLaws.{such_queue}
use borrow.Author.Rules.{rules}
use Rattle.step.proofs.taking.recovered.Goals as goal

pub highest_white-requires : goal.highest_white-requires
highest_white-requires c = search (rules, such_some)

pub raise_white-requires : goal.raise_white-requires
raise_white-requires c = search (rules, such_queue)

pub recover-requires : goal.recover-requires
recover-requires c =
    recovery_ready _ _ _ c.highest_white.ensures c.raise_white.ensures _ c.requires

pub returns : goal.returns
returns c =
    recovery_done _ _ _ c.highest_white.ensures c.raise_white.ensures _ _ c.recover.ensures c.stored.ensures
