use Rattle.outgoing.proofs.LentLaws.{lent_some}
use Rattle.step.proofs.EndLaws.{end_attempts, end_stays}
use borrow.Author.Rules.{rules}
use Rattle.step.proofs.exchanging.end_exchange.Goals as goal

pub quorum_here-requires : goal.quorum_here-requires
quorum_here-requires c = search (rules, lent_some)

pub attempt_primary-requires : goal.attempt_primary-requires
attempt_primary-requires c =
    end_attempts _ _ c.requires _ c.quorum_here.ensures
    c.if-quorum_here.true

pub stay-requires : goal.stay-requires
stay-requires c =
    end_stays _ _ c.requires _ c.quorum_here.ensures
    c.if-quorum_here.false
