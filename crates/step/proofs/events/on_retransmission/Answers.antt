use Rattle.step.proofs.ResentLaws.{resent_untaken, resent_unnumbered, resent_outside, resent_pass, exchange_ready, resent_exchanged, resent_room, resent_red}
use borrow.Author.Rules.{rules}
use mathlib.Core.Path.{ap}
use mathlib.Core.Bool.{not}
use Rattle.step.proofs.events.on_retransmission.Goals as goal

pub returns-then-not-takes_retransmission : goal.returns-then-not-takes_retransmission
returns-then-not-takes_retransmission c = search (rules, resent_untaken)

pub returns-then-not-numbered_own : goal.returns-then-not-numbered_own
returns-then-not-numbered_own c = search (rules, resent_unnumbered)

pub returns-then-not-is_member : goal.returns-then-not-is_member
returns-then-not-is_member c = search (rules, resent_outside)

pub pass_at-x-requires : goal.pass_at-x-requires
pass_at-x-requires c =
    resent_pass _ _ _ _ _ _ _ c.requires _ c.takes_retransmission.ensures (ap not c.if-not-takes_retransmission.false) _ c.numbered_own.ensures (ap not c.if-not-numbered_own.false) _ c.is_member.ensures (ap not c.if-not-is_member.false)

pub exchange-requires : goal.exchange-requires
exchange-requires c =
    exchange_ready _ _ _ _ _ _ _ c.requires _ c.takes_retransmission.ensures (ap not c.if-not-takes_retransmission.false) _ c.numbered_own.ensures (ap not c.if-not-numbered_own.false) _ c.is_member.ensures (ap not c.if-not-is_member.false) c.if-h-eq-EXCHANGE_ACTIONS.true _ _ c.pass_at-x.ensures

pub returns-then-h-eq-EXCHANGE_ACTIONS : goal.returns-then-h-eq-EXCHANGE_ACTIONS
returns-then-h-eq-EXCHANGE_ACTIONS c =
    resent_exchanged _ _ _ _ _ _ _ c.requires _ c.takes_retransmission.ensures (ap not c.if-not-takes_retransmission.false) _ c.numbered_own.ensures (ap not c.if-not-numbered_own.false) _ c.is_member.ensures (ap not c.if-not-is_member.false) c.if-h-eq-EXCHANGE_ACTIONS.true _ _ c.pass_at-x.ensures _ _ _ c.exchange.ensures

pub pass-x-requires : goal.pass-x-requires
pass-x-requires c =
    resent_pass _ _ _ _ _ _ _ c.requires _ c.takes_retransmission.ensures (ap not c.if-not-takes_retransmission.false) _ c.numbered_own.ensures (ap not c.if-not-numbered_own.false) _ c.is_member.ensures (ap not c.if-not-is_member.false)

pub red-requires : goal.red-requires
red-requires c =
    resent_room _ _ _ _ _ _ _ c.requires _ c.takes_retransmission.ensures (ap not c.if-not-takes_retransmission.false) _ c.numbered_own.ensures (ap not c.if-not-numbered_own.false) _ c.is_member.ensures (ap not c.if-not-is_member.false) c.if-h-eq-EXCHANGE_ACTIONS.false _ _ c.pass-x.ensures

pub returns : goal.returns
returns c =
    resent_red _ _ _ _ _ _ _ c.requires _ c.takes_retransmission.ensures (ap not c.if-not-takes_retransmission.false) _ c.numbered_own.ensures (ap not c.if-not-numbered_own.false) _ c.is_member.ensures (ap not c.if-not-is_member.false) c.if-h-eq-EXCHANGE_ACTIONS.false _ _ c.pass-x.ensures _ _ c.red.ensures c.quiet.ensures
