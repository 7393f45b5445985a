use Rattle.install.proofs.PassLaws.{creator_start, creator_in, creator_again, creator_done, creator_end}
use borrow.Author.Rules.{rules}
use Rattle.install.proofs.passes.turn_creator.Goals as goal

pub loop-i-init : goal.loop-i-init
loop-i-init c = search (rules, creator_start)

pub turn_next-requires : goal.turn_next-requires
turn_next-requires c = search (rules, creator_in)

pub returns-in_default : goal.returns-in_default
returns-in_default c =
    creator_done _ c.requires.0.holds _ _ _ _ _ _ _ c.requires.1 c.num16-cut.ensures c.loop-i-test.true c.loop-i.invariant.1 c.in_default.ensures

pub loop-i-preserved : goal.loop-i-preserved
loop-i-preserved c =
    (c.in-Some.ensures.1, creator_again _ c.requires.0.holds _ _ _ _ _ _ _ c.loop-i.invariant.1 c.in-Some.ensures.0 c.in-Some.ensures.2)

pub returns : goal.returns
returns c = search (rules, creator_end)
