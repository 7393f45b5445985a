use mathlib.Core.Path.{refl}
use Rattle.base.proofs.Prefixes.{begins_refl}
use Rattle.replication.specs.Machine.Types.{with_votes, cleared_mark}
use Rattle.replication.specs.Machine.Step.{unmarked}
use Rattle.image.specs.Header.{header_of, mark_numbers}
use borrow.Author.Rules.{rules}
use Rattle.updates.proofs.MembershipLaws.{change_made, votes_kept}
use Rattle.updates.proofs.votes.clear_mark.Goals as goal

pub returns : goal.returns
unfolding unmarked cleared_mark header_of mark_numbers
returns c =
    change_made (λ s. with_votes (unmarked s.votes) s) _ _ (λ s. refl) (λ s. votes_kept s _ (begins_refl _)) c.change.ensures.0 (λ s f. search (rules, f, c.change.ensures.1)) c.change.ensures.2
