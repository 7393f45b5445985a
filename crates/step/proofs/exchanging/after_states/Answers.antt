use mathlib.Core.Path.{◌∙◌}
use Rattle.step.proofs.StatesLaws.{after_awaited, after_ends, after_ended}
use Rattle.outgoing.proofs.LentLaws.{lent_header, lent_some}
use borrow.Author.Rules.{rules}
use Rattle.step.proofs.exchanging.after_states.Goals as goal

pub planned_now-requires : goal.planned_now-requires
planned_now-requires c = search (rules, lent_some)

pub returns-then-planned_now-ne0 : goal.returns-then-planned_now-ne0
returns-then-planned_now-ne0 c =
    after_awaited _ _ c.requires _
    c.planned_now.ensures
    c.if-planned_now-ne0.true _ _ _ c.await_actions.ensures

pub set_mode-requires : goal.set_mode-requires
set_mode-requires c = lent_header _ _ _ c.requires

pub end_exchange-requires : goal.end_exchange-requires
end_exchange-requires c =
    after_ends _ _ c.requires _
    c.planned_now.ensures _ (λ s m h e. c.set_mode.ensures s m h (c.from.ensures ∙ e))

pub returns : goal.returns
returns c =
    after_ended _ _
    c.requires _
    c.planned_now.ensures _
    (λ s m h e. c.set_mode.ensures s m h (c.from.ensures ∙ e))
    c.if-planned_now-ne0.false _ _ _
    c.end_exchange.ensures
