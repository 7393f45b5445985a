use Rattle.step.proofs.ExchangeLaws.{last_ends, last_ended, more_such, more_quiet}
use Rattle.outgoing.proofs.LentLaws.{lent_header, lent_some}
use native.Mathlib.Omega.{arith}
use borrow.Author.Rules.{rules}
use Rattle.step.proofs.exchanging.exchange.Goals as goal

pub planned_now-planned-requires : goal.planned_now-planned-requires
planned_now-planned-requires c = search (rules, lent_some)

pub num32-come-requires : goal.num32-come-requires
num32-come-requires c =
    omega (arith, lent_header _ _ _ c.requires)

pub end_exchange-requires : goal.end_exchange-requires
end_exchange-requires c =
    last_ends _ _ _ _ _ _ _ c.requires c.planned_now-planned.ensures c.num32-come.ensures _ c.take_last.ensures

pub returns-then-planned-come : goal.returns-then-planned-come
returns-then-planned-come c =
    last_ended _ _ _ _ _ _ _ c.requires c.planned_now-planned.ensures c.num32-come.ensures _ c.take_last.ensures c.if-planned-come.true _ _ _ c.end_exchange.ensures

pub take_in-requires : goal.take_in-requires
take_in-requires c =
    more_such _ _ _ _ _ _ _ c.requires c.planned_now-planned.ensures c.num32-come.ensures c.if-planned-come.false

pub returns : goal.returns
returns c =
    more_quiet _ _ _ _ _ _ _ c.requires c.planned_now-planned.ensures c.num32-come.ensures c.if-planned-come.false _ c.take_in.ensures _ c.quiet.ensures
