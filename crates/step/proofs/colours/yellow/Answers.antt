use native.Mathlib.Omega.{arith}
use Rattle.step.proofs.ColoursLaws.{cut_inside, yellow_next, yellow_passed}
use borrow.Author.Rules.{rules}
use Rattle.step.proofs.colours.yellow.Goals as goal

pub num16-cut-requires : goal.num16-cut-requires
num16-cut-requires c = omega (arith, cut_inside _ _ _ c.requires)

pub returns-then-cut-head : goal.returns-then-cut-head
returns-then-cut-head c = search (rules, yellow_passed)

pub enter_yellow-requires : goal.enter_yellow-requires
enter_yellow-requires c =
    yellow_next _ _ _ _
    c.num16-cut.ensures
    c.requires
    c.if-cut-head.false
