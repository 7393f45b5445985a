use Rattle.queue.proofs.WhiteLaws.{such_queue}
use Rattle.updates.proofs.WhiteLaws.{not_taken, raised_some, length_taken}
use borrow.Author.Rules.{rules}
use Rattle.updates.proofs.white.take.Goals as goal

pub returns-then-not-is_next : goal.returns-then-not-is_next
returns-then-not-is_next c = not_taken _ _ _ c.is_next.ensures (search rules)

pub raise_white-requires : goal.raise_white-requires
raise_white-requires c = search (rules, such_queue)

pub is_full-requires : goal.is_full-requires
is_full-requires c = raised_some _ _ _ _ c.requires c.raise_white.ensures

pub returns : goal.returns
returns c =
    length_taken _ _ _ _ _ c.is_next.ensures (search rules)
    c.raise_white.ensures c.is_full.ensures
