use Rattle.record.proofs.Turns.{small}
use Rattle.exchange.proofs.HintLaws.{hints_start, hints_again, hints_end}
use borrow.Author.Rules.{rules}
use Rattle.exchange.proofs.table.hints.Goals as goal

pub loop-k-init : goal.loop-k-init
loop-k-init c = search (rules, hints_start)

pub loop-k-preserved : goal.loop-k-preserved
loop-k-preserved c = search (rules, hints_again, small)

pub returns : goal.returns
returns c = search (rules, hints_end)
