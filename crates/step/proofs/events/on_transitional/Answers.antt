use Rattle.image.proofs.InPlace.{such_header}
use Rattle.step.proofs.ConfigurationLaws.{transitional_untaken, transitional_second, transitional_left}
use borrow.Author.Rules.{rules}
use mathlib.Core.Path.{ap, ◌∙◌}
use mathlib.Core.Bool.{not}
use Rattle.step.proofs.events.on_transitional.Goals as goal

pub returns-in_default : goal.returns-in_default
returns-in_default c = search (rules, transitional_untaken)

pub returns-then-not-transitional_due : goal.returns-then-not-transitional_due
returns-then-not-transitional_due c = search (rules, transitional_second)

pub leave-requires : goal.leave-requires
leave-requires c = search (rules, such_header)

pub returns : goal.returns
returns c = transitional_left _ _ _ c.requires _ c.after_transitional.ensures _ c.transitional_due.ensures _ c.in-Some.is (ap not c.if-not-transitional_due.false) _ _ (λ s m h e. c.leave.ensures s m h (c.from.ensures ∙ e)) c.quiet.ensures
