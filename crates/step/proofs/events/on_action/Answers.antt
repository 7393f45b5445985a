use Rattle.step.proofs.ActionLaws.{action_untaken, action_unnumbered, action_outside, action_late, action_installed, action_pass, action_takes, action_coloured}
use borrow.Author.Rules.{rules}
use mathlib.Core.Path.{ap}
use mathlib.Core.Bool.{not}
use Rattle.step.proofs.events.on_action.Goals as goal

pub returns-then-not-takes_action : goal.returns-then-not-takes_action
returns-then-not-takes_action c = search (rules, action_untaken)

pub returns-then-not-numbered_own : goal.returns-then-not-numbered_own
returns-then-not-numbered_own c = search (rules, action_unnumbered)

pub returns-then-not-is_member : goal.returns-then-not-is_member
returns-then-not-is_member c = search (rules, action_outside)

pub late_install-requires : goal.late_install-requires
late_install-requires c =
    action_late _ _ _ _ c.requires _ c.takes_action.ensures (ap not c.if-not-takes_action.false) _ c.numbered_own.ensures (ap not c.if-not-numbered_own.false) _ c.is_member.ensures (ap not c.if-not-is_member.false) c.if-h-eq-UN.true

pub returns-then-h-eq-UN : goal.returns-then-h-eq-UN
returns-then-h-eq-UN c =
    action_installed _ _ _ _ c.requires _ c.takes_action.ensures (ap not c.if-not-takes_action.false) _ c.numbered_own.ensures (ap not c.if-not-numbered_own.false) _ c.is_member.ensures (ap not c.if-not-is_member.false) c.if-h-eq-UN.true _ _ c.late_install.ensures c.stored.ensures

pub pass-x-requires : goal.pass-x-requires
pass-x-requires c =
    action_pass _ _ _ _ c.requires _ c.takes_action.ensures (ap not c.if-not-takes_action.false) _ c.numbered_own.ensures (ap not c.if-not-numbered_own.false) _ c.is_member.ensures (ap not c.if-not-is_member.false)

pub colour-requires : goal.colour-requires
colour-requires c =
    action_takes _ _ _ _ c.requires _ c.takes_action.ensures (ap not c.if-not-takes_action.false) _ c.numbered_own.ensures (ap not c.if-not-numbered_own.false) _ c.is_member.ensures (ap not c.if-not-is_member.false) c.if-h-eq-UN.false _ _ c.pass-x.ensures

pub returns : goal.returns
returns c =
    action_coloured _ _ _ _ c.requires _ c.takes_action.ensures (ap not c.if-not-takes_action.false) _ c.numbered_own.ensures (ap not c.if-not-numbered_own.false) _ c.is_member.ensures (ap not c.if-not-is_member.false) c.if-h-eq-UN.false _ _ c.pass-x.ensures _ _ c.colour.ensures
