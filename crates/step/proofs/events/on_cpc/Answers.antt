use Rattle.step.proofs.CpcLaws.{cpc_sender_below, cpc_passed_over, cpc_untaken, cpc_outside, cpc_ready, cpc_installed, late_cpc_ready, late_cpc_taken}
use borrow.Author.Rules.{rules}
use mathlib.Core.Path.{ap}
use mathlib.Core.Bool.{not}
use Rattle.step.proofs.events.on_cpc.Goals as goal

pub returns-then-h-eq-NON_PRIM : goal.returns-then-h-eq-NON_PRIM
returns-then-h-eq-NON_PRIM c = search (rules, cpc_passed_over)

pub returns-then-not-takes_cpc : goal.returns-then-not-takes_cpc
returns-then-not-takes_cpc c = search (rules, cpc_untaken)

pub cpc_from_member-requires : goal.cpc_from_member-requires
cpc_from_member-requires c = search (rules, cpc_sender_below)

pub returns-then-not-cpc_from_member : goal.returns-then-not-cpc_from_member
returns-then-not-cpc_from_member c = search (rules, cpc_outside)

pub collect_cpc-requires : goal.collect_cpc-requires
collect_cpc-requires c = cpc_ready _ _ _ _ _ c.requires c.if-h-eq-NON_PRIM.false _ c.takes_cpc.ensures (ap not c.if-not-takes_cpc.false) _ c.cpc_from_member.ensures (ap not c.if-not-cpc_from_member.false) c.if-h-eq-CONSTRUCT.true

pub returns-then-h-eq-CONSTRUCT : goal.returns-then-h-eq-CONSTRUCT
returns-then-h-eq-CONSTRUCT c = search (rules, cpc_installed)

pub collect_late_cpc-requires : goal.collect_late_cpc-requires
collect_late_cpc-requires c = late_cpc_ready _ _ _ _ _ c.requires c.if-h-eq-NON_PRIM.false _ c.takes_cpc.ensures (ap not c.if-not-takes_cpc.false) _ c.cpc_from_member.ensures (ap not c.if-not-cpc_from_member.false) c.if-h-eq-CONSTRUCT.false

pub returns : goal.returns
returns c = search (rules, late_cpc_taken)
