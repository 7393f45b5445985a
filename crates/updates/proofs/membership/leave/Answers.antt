use mathlib.Core.Path.{refl}
use Rattle.replication.specs.Machine.Step.{leave}
use Rattle.image.specs.Header.{header_of, status_of, transitional_of}
use borrow.Author.Rules.{rules}
use Rattle.updates.proofs.MembershipLaws.{change_made, membership_kept}
use Rattle.updates.proofs.membership.leave.Goals as goal

pub returns : goal.returns
unfolding leave header_of status_of transitional_of
returns c =
    λ s m r k. change_made (leave m _) _ _ (λ t. refl) (λ t. membership_kept t _ refl) c.change.ensures.0 (λ t f. search (rules, f, c.change.ensures.1, k)) c.change.ensures.2 s r
