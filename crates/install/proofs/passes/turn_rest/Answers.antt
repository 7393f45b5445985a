use Rattle.install.proofs.PassLaws.{rest_start, rest_in, rest_again, rest_end}
use borrow.Author.Rules.{rules}
use Rattle.install.proofs.passes.turn_rest.Goals as goal

pub loop-c-init : goal.loop-c-init
loop-c-init c = search (rules, rest_start)

pub turn_creator-requires : goal.turn_creator-requires
turn_creator-requires c = search (rules, rest_in)

pub loop-c-preserved : goal.loop-c-preserved
loop-c-preserved c = search (rules, rest_again)

pub returns : goal.returns
returns c = search (rules, rest_end)
