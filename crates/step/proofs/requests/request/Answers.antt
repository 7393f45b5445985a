use Rattle.step.proofs.RequestLaws.{asked_payload, request_waits_lem, request_lent, request_sent}
use borrow.Author.Rules.{rules}
use Rattle.step.proofs.requests.request.Goals as goal

pub number-requires : goal.number-requires
number-requires c = asked_payload _ _ _ _ c.requires

pub returns-then-not-sends_now : goal.returns-then-not-sends_now
returns-then-not-sends_now c =
    request_waits_lem _ _ _ _ c.requires _ c.number.ensures _
    c.sends_now.ensures (search rules) _ (search rules)

pub send_all-requires : goal.send_all-requires
send_all-requires c =
    request_lent _ _ _ _ c.requires _ c.number.ensures _
    c.sends_now.ensures

pub returns : goal.returns
returns c =
    request_sent _ _ _ _
    c.requires _
    c.number.ensures _
    c.sends_now.ensures (search rules) _ _ _
    c.send_all.ensures
