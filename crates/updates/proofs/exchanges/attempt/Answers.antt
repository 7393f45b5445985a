use native.Mathlib.Omega.{arith}
use Rattle.image.proofs.InPlace.{such_header}
use borrow.Author.Rules.{rules}
use mathlib.Core.Path.{refl}
use mathlib.Core.Logic.{inl}
use Rattle.base.proofs.Prefixes.{begins_refl}
use Rattle.record.specs.Values.{last_of}
use Rattle.replication.specs.Machine.Exchange.{attempted}
use Rattle.replication.specs.Machine.Step.{attempting, here_set}
use Rattle.image.specs.Header.{header_of, mark_numbers, mode_number}
use Rattle.updates.proofs.ExchangeLaws.{set_here, attempt_low}
use Rattle.updates.proofs.MembershipLaws.{change_made}
use Rattle.updates.proofs.exchanges.attempt.Goals as goal

pub change-requires-clause-room : goal.change-requires-clause-room
change-requires-clause-room c = search (rules, such_header)

pub change-requires-clause-callable : goal.change-requires-clause-callable
change-requires-clause-callable c = λ x y z. let h = attempt_low c.args.state.now _ c.requires refl in record { fits = omega (arith, h) }

pub returns : goal.returns
unfolding attempting attempted here_set header_of mark_numbers mode_number last_of
returns c =
    change_made attempting _ _ (λ s. refl) (λ s. record { cuts = refl; queued = refl; own = begins_refl _; yellow = begins_refl _; states = inl refl })
    c.change.ensures.0 (λ s f. search (rules, f, c.change.ensures.1, set_here s.membership.configuration)) c.change.ensures.2
