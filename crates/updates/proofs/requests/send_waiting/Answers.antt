use mathlib.Core.Path.{refl}
use mathlib.Core.Logic.{inl}
use Rattle.base.proofs.Prefixes.{begins_refl}
use Rattle.replication.specs.Machine.Requests.{send_waiting}
use Rattle.replication.specs.Machine.WellFormed.{queue}
use Rattle.image.specs.Header.{header_of}
use borrow.Author.Rules.{rules}
use Rattle.updates.proofs.MembershipLaws.{change_made}
use Rattle.updates.proofs.requests.send_waiting.Goals as goal

pub returns : goal.returns
unfolding send_waiting queue header_of
returns c =
    change_made send_waiting _ _ (λ s. refl) (λ s. record { cuts = refl; queued = refl; own = begins_refl _; yellow = begins_refl _; states = inl refl })
    c.change.ensures.0 (λ s f. search (rules, f, c.change.ensures.1)) c.change.ensures.2
