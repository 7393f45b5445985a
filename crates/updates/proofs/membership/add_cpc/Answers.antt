use mathlib.Core.Path.{refl}
use Rattle.replication.specs.Machine.Step.{with_cpc}
use Rattle.image.specs.Header.{header_of}
use borrow.Author.Rules.{rules}
use Rattle.updates.proofs.MembershipLaws.{change_made, membership_kept}
use Rattle.updates.proofs.membership.add_cpc.Goals as goal

pub returns : goal.returns
unfolding with_cpc header_of
returns c = change_made (with_cpc _) _ _ (λ s. refl) (λ s. membership_kept s _ refl) c.change.ensures.0 (λ s f. search (rules, f, c.change.ensures.1)) c.change.ensures.2
