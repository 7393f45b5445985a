use mathlib.Core.Path.{refl}
use Rattle.replication.specs.Machine.Types.{in_mode}
use Rattle.image.specs.Header.{header_of}
use borrow.Author.Rules.{rules}
use Rattle.updates.proofs.MembershipLaws.{change_made, membership_kept}
use Rattle.updates.proofs.membership.set_mode.Goals as goal

pub returns : goal.returns
unfolding header_of
returns c = λ s m r k. change_made (in_mode m) _ _ (λ t. refl) (λ t. membership_kept t _ refl) c.change.ensures.0 (λ t f. search (rules, f, c.change.ensures.1, k)) c.change.ensures.2 s r
