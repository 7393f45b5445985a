use native.Mathlib.Omega.{arith}
use Rattle.image.proofs.InPlace.{such_header}
use Rattle.queries.proofs.MeetingLaws.{planned_few, planned_elsewhere, planned_counted}
use borrow.Author.Rules.{rules}
use Rattle.queries.proofs.meeting.resent_planned.Goals as goal

pub num8-requires : goal.num8-requires
num8-requires c = omega (arith, such_header _ _ c.requires)

pub returns-then-num8-ne-EXCHANGE_ACTIONS : goal.returns-then-num8-ne-EXCHANGE_ACTIONS
returns-then-num8-ne-EXCHANGE_ACTIONS c = search (rules, planned_elsewhere)

pub overflow_cast-result : goal.overflow_cast-result
overflow_cast-result c = search (rules, planned_few)

pub returns : goal.returns
returns c = search (rules, planned_counted)
