use mathlib.Core.Path.{refl}
use mathlib.Core.Logic.{inl}
use mathlib.Core.List.{[]}
use native.Mathlib.Omega.{arith}
use Rattle.base.proofs.Prefixes.{begins_refl, begins_append}
use Rattle.record.specs.Values.{last_of}
use Rattle.replication.specs.Machine.Types.{with_votes, no_yellow}
use Rattle.replication.specs.Machine.Install.{install_votes}
use Rattle.image.specs.Header.{header_of, mark_numbers}
use Rattle.image.proofs.InPlace.{such_header}
use Rattle.updates.proofs.MembershipLaws.{change_made}
use Rattle.install.proofs.InstallLaws.{votes_low}
use borrow.Author.Rules.{rules}
use Rattle.install.proofs.installing.install_votes.Goals as goal

pub change-requires-clause-room : goal.change-requires-clause-room
change-requires-clause-room c = search (rules, such_header)

pub change-requires-clause-callable : goal.change-requires-clause-callable
change-requires-clause-callable c = λ x y z. let h = votes_low c.args.state.now _ c.requires refl in record { fits = omega (arith, h) }

pub returns : goal.returns
unfolding install_votes no_yellow header_of last_of mark_numbers
returns c =
    change_made (λ s. with_votes (install_votes s.votes) s) _ _ (λ s. refl)
    (λ s. record { cuts = refl; queued = refl; own = begins_refl _; yellow = begins_append [] s.votes.yellow.ids; states = inl refl })
    c.change.ensures.0 (λ s f. search (rules, f, c.change.ensures.1)) c.change.ensures.2
