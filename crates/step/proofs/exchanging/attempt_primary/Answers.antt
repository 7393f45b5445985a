use Rattle.step.proofs.EndLaws.{attempt_some, attempt_short, attempt_made}
use Rattle.outgoing.proofs.LentLaws.{lent_header}
use native.Mathlib.Omega.{arith}
use Rattle.step.proofs.exchanging.attempt_primary.Goals as goal

pub load-h-requires : goal.load-h-requires
load-h-requires c = lent_header _ _ _ c.requires

pub attempt-requires : goal.attempt-requires
attempt-requires c = attempt_some _ _ c.requires _ c.decide_all.ensures

pub overflow_cast-sent : goal.overflow_cast-sent
overflow_cast-sent c =
    omega (arith, attempt_short _ _ c.requires _ c.load-h.ensures _ _ c.write_cpc.ensures _ c.unwrap_or-sent.ensures)

pub returns : goal.returns
returns c =
    attempt_made _ _ c.requires _ c.load-h.ensures _ _ c.write_cpc.ensures _ c.unwrap_or-sent.ensures _ _ c.decide_all.ensures c.attempt.ensures _
    c.stored.ensures
