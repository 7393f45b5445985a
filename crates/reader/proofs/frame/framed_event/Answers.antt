use mathlib.Core.Option.{none}
use mathlib.Core.Path.{◌≡◌}
use Rattle.format.specs.Read.{kind_named}
use Rattle.record.specs.declared.kinds.Kind.TheVariants.{Action, Retransmission, State, Cpc, Regular, Transitional, Request, Recovery}
use Rattle.reader.proofs.Heads.{head_long, framed_bad, framed_one, framed_arm, framed_other}
use borrow.Author.Rules.{rules}
use Rattle.reader.proofs.frame.framed_event.Goals as goal

pub returns-then-not-head_ok : goal.returns-then-not-head_ok
returns-then-not-head_ok c = search (rules, framed_bad)

pub num8-requires : goal.num8-requires
num8-requires c = search (rules, head_long)

pub returns-in_default : goal.returns-in_default
returns-in_default c =
    let h : kind_named c.num8.result ≡ none = (c.in_default.ensures {u = tt}).1 in
    search (rules, framed_other)

pub returns-in-Action : goal.returns-in-Action
returns-in-Action c = search (rules, framed_arm Action, c.in-Ok.ensures)

pub returns-in-Retransmission : goal.returns-in-Retransmission
returns-in-Retransmission c = search (rules, framed_arm Retransmission, c.in-Ok.ensures)

pub returns-in-State : goal.returns-in-State
returns-in-State c = search (rules, framed_one State, c.in-Ok.ensures)

pub returns-in-Cpc : goal.returns-in-Cpc
returns-in-Cpc c = search (rules, framed_arm Cpc, c.in-Ok.ensures)

pub returns-in-Regular : goal.returns-in-Regular
returns-in-Regular c = search (rules, framed_arm Regular, c.in-Ok.ensures)

pub returns-in-Transitional : goal.returns-in-Transitional
returns-in-Transitional c = search (rules, framed_arm Transitional, c.in-Ok.ensures)

pub returns-in-Request : goal.returns-in-Request
returns-in-Request c = search (rules, framed_arm Request, c.in-Ok.ensures)

pub returns-in-Recovery : goal.returns-in-Recovery
returns-in-Recovery c = search (rules, framed_arm Recovery, c.in-Ok.ensures)
