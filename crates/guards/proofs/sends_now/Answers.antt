use mathlib.Core.Path.{◌≡◌, sym, ◌∙◌}
use mathlib.Core.Logic.{⊎_elim}
use borrow.Author.Tests.{ne_eqb}
use Rattle.guards.proofs.RowsLaws.{sends_primary, sends_elsewhere, sends_unformed, sends_formed}
use borrow.Author.Rules.{rules}
use Rattle.guards.proofs.sends_now.Goals as goal
use Rattle.guards.proofs.sends_now.Goals.{then-h-from-2, else-h-from-2}

pub returns-then-h-from : goal.returns-then-h-from
returns-then-h-from c = search (rules, sends_primary)

pub returns-then-h-eq1 : goal.returns-then-h-eq1
returns-then-h-eq1 c = sends_formed c.args.h (c.if-h-eq1.true.0 ∙ c.from-else-h-from.ensures) c.if-h-eq1.true.1

pub returns-else-h-eq1 : goal.returns-else-h-eq1
returns-else-h-eq1 c s e =
    elim c.if-h-from-2.branch [
      | then-h-from-2 w ↦ (let formed : c.args.h.configuration_status ≡ 1 → ⊥ = ⊎_elim (λ x. x.1) (λ y. absurd (y w.if-h-from-2.true)) c.if-h-eq1.either in
          w.t-6-is ∙ ne_eqb _ _ formed ∙ sends_unformed c.args.h (w.if-h-from-2.true ∙ c.from-else-h-from.ensures) formed s e)
      | else-h-from-2 w ↦ w.t-6-is ∙ ne_eqb _ _ w.if-h-from-2.false
          ∙ sends_elsewhere c.args.h (λ g. c.if-h-from.false (g ∙ sym c.from.ensures)) (λ g. w.if-h-from-2.false (g ∙ sym c.from-else-h-from.ensures)) s e
    ]
