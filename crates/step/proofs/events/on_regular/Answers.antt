use Rattle.step.proofs.ConfigurationLaws.{regular_early, first_ready, un_ready, no_ready, trans_ready, first_joined, un_joined, no_joined, trans_joined, regular_untaken}
use borrow.Author.Rules.{rules}
use mathlib.Core.Path.{ap}
use mathlib.Core.Bool.{not}
use Rattle.step.proofs.events.on_regular.Goals as goal

pub returns-then-not-regular_due : goal.returns-then-not-regular_due
returns-then-not-regular_due c = search (rules, regular_early)

pub join-requires : goal.join-requires
join-requires c = first_ready _ _ _ _ _ c.requires _ c.regular_due.ensures (ap not c.if-not-regular_due.false) c.in-0.is

pub join-requires-in-7 : goal.join-requires-in-7
join-requires-in-7 c = un_ready _ _ _ _ _ c.requires _ c.regular_due.ensures (ap not c.if-not-regular_due.false) c.in-7.is

pub join_unmarked-requires : goal.join_unmarked-requires
join_unmarked-requires c = no_ready _ _ _ _ _ c.requires _ c.regular_due.ensures (ap not c.if-not-regular_due.false) c.in-6.is

pub join_yellow-requires : goal.join_yellow-requires
join_yellow-requires c = trans_ready _ _ _ _ _ c.requires _ c.regular_due.ensures (ap not c.if-not-regular_due.false) c.in-2.is

pub returns-in-0 : goal.returns-in-0
returns-in-0 c = search (rules, first_joined)

pub returns-in-7 : goal.returns-in-7
returns-in-7 c = search (rules, un_joined)

pub returns-in-6 : goal.returns-in-6
returns-in-6 c = search (rules, no_joined)

pub returns-in-2 : goal.returns-in-2
returns-in-2 c = search (rules, trans_joined)

pub returns-in_default : goal.returns-in_default
returns-in_default c = search (rules, regular_untaken)
