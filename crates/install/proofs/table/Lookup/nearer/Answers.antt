use Rattle.install.proofs.NextLaws.{near_other, near_low, near_first, near_kept, near_taken}
use borrow.Author.Rules.{rules}
use Rattle.install.proofs.table.Lookup.nearer.Goals as goal

pub returns-then-id-creator : goal.returns-then-id-creator
returns-then-id-creator c = search (rules, near_other, near_low)

pub returns-in-Some : goal.returns-in-Some
returns-in-Some c = search (rules, near_kept)

pub returns-in_default : goal.returns-in_default
returns-in_default c =
    near_taken _ c.requires.indexed.holds _ _ _ c.queue_id-id.result c.requires.inside c.queue_id-id.ensures _ c.in-Some.p _ c.in-Some.is c.index_at.ensures
    c.if-index_at-id.false c.if-id-creator.false c.if-id-above.false

pub returns-in_default-2 : goal.returns-in_default-2
returns-in_default-2 c =
    near_first _ c.requires.indexed.holds _ _ _ c.queue_id-id.result c.requires.inside c.queue_id-id.ensures _ c.in_default.is c.if-id-creator.false
    c.if-id-above.false
