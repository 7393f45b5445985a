use mathlib.Core.Path.{refl}
use Rattle.image.specs.Header.{header_of, status_of, id_of, set_of, transitional_of, mode_number}
use Rattle.updates.specs.Standing.{dropped}
use borrow.Author.Rules.{rules}
use Rattle.updates.proofs.MembershipLaws.{change_made, membership_dropped, without_senders}
use Rattle.updates.proofs.recovery.drop_membership.Goals as goal

pub returns : goal.returns
unfolding dropped header_of status_of id_of set_of transitional_of mode_number
returns c =
    change_made dropped _ _ (λ s. refl) (λ s. membership_dropped s _ refl) c.change.ensures.0 (λ s f. search (rules, f, c.change.ensures.1, without_senders (dropped s) s.servers refl)) c.change.ensures.2
