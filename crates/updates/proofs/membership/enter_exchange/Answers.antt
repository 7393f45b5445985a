use mathlib.Core.Path.{refl}
use Rattle.replication.specs.Machine.Step.{entering}
use Rattle.image.specs.Header.{header_of, status_of, id_of, set_of, transitional_of, mode_number}
use Rattle.updates.specs.Lists.{configuration_of}
use borrow.Author.Rules.{rules}
use Rattle.updates.proofs.MembershipLaws.{change_made, membership_dropped, without_senders}
use Rattle.updates.proofs.membership.enter_exchange.Goals as goal

pub returns : goal.returns
unfolding entering header_of status_of id_of set_of transitional_of mode_number configuration_of
returns c =
    change_made (entering (configuration_of c.args.id c.args.set)) _ _ (λ s. refl) (λ s. membership_dropped s _ refl)
    c.change.ensures.0 (λ s f. search (rules, f, c.change.ensures.1, without_senders (entering (configuration_of c.args.id c.args.set) s) s.servers refl)) c.change.ensures.2
