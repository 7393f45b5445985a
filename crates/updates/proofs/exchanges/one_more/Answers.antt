use mathlib.Core.Path.{refl}
use Rattle.replication.specs.Machine.Step.{one_more}
use Rattle.image.specs.Header.{header_of}
use Rattle.image.proofs.InPlace.{such_header}
use Rattle.updates.proofs.ExchangeLaws.{come_low}
use Rattle.updates.proofs.MembershipLaws.{change_made, membership_kept}
use Rattle.updates.proofs.exchanges.one_more.Goals as goal
use native.Mathlib.Omega.{arith}
use borrow.Author.Rules.{rules}

pub change-requires-clause-room : goal.change-requires-clause-room
change-requires-clause-room c = search (rules, such_header)

pub change-requires-clause-callable : goal.change-requires-clause-callable
change-requires-clause-callable c = λ x y z. let h = come_low c.args.state.now _ c.requires refl in record { fits = omega (arith, h) }

pub returns : goal.returns
unfolding one_more header_of
returns c = change_made one_more _ _ (λ s. refl) (λ s. membership_kept s _ refl) c.change.ensures.0 (λ s f. search (rules, f, c.change.ensures.1)) c.change.ensures.2
