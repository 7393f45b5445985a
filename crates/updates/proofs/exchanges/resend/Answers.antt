use mathlib.Core.Path.{refl}
use Rattle.replication.specs.Machine.Step.{resending}
use Rattle.image.specs.Header.{header_of, mode_number}
use borrow.Author.Rules.{rules}
use Rattle.updates.proofs.MembershipLaws.{change_made, membership_kept}
use Rattle.updates.proofs.exchanges.resend.Goals as goal

pub returns : goal.returns
unfolding resending header_of mode_number
returns c = change_made resending _ _ (λ s. refl) (λ s. membership_kept s _ refl) c.change.ensures.0 (λ s f. search (rules, f, c.change.ensures.1)) c.change.ensures.2
