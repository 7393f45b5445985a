use Rattle.install.proofs.PassLaws.{yellow_start, yellow_in, yellow_again, yellow_end_lem}
use borrow.Author.Rules.{rules}
use Rattle.install.proofs.passes.turn_yellow.Goals as goal

pub loop-j-init : goal.loop-j-init
loop-j-init c = search (rules, yellow_start)

pub turn_at-requires : goal.turn_at-requires
turn_at-requires c = search (rules, yellow_in)

pub loop-j-preserved : goal.loop-j-preserved
loop-j-preserved c = search (rules, yellow_again)

pub returns : goal.returns
returns c = search (rules, yellow_end_lem)
