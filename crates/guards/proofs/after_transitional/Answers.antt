use mathlib.Core.Path.{sym, ap, ◌∙◌}
use mathlib.Core.Logic.{⊎_elim}
use Rattle.guards.proofs.ModeLaws.{code_after, after_code, after_past}
use Rattle.guards.proofs.after_transitional.Goals as goal

pub returns-in_default : goal.returns-in_default
returns-in_default c = after_past _ _ c.in_default.ensures.1

pub returns-in-NonPrim : goal.returns-in-NonPrim
returns-in-NonPrim c m e =
    ⊎_elim (λ h. ap code_after (sym h)) (λ g. ⊎_elim (λ h. ap code_after (sym h)) (λ h. ap code_after (sym h)) g) c.in-NonPrim.is
    ∙ after_code c.in-Ok.mode _ c.in-Ok.ensures m e

pub returns-in-RegPrim : goal.returns-in-RegPrim
returns-in-RegPrim c m e = ap code_after (sym c.in-RegPrim.is) ∙ after_code c.in-Ok.mode _ c.in-Ok.ensures m e

pub returns-in-Construct : goal.returns-in-Construct
returns-in-Construct c m e = ap code_after (sym c.in-Construct.is) ∙ after_code c.in-Ok.mode _ c.in-Ok.ensures m e

pub returns-in-TransPrim : goal.returns-in-TransPrim
returns-in-TransPrim c m e =
    ⊎_elim (λ h. ap code_after (sym h)) (λ g. ⊎_elim (λ h. ap code_after (sym h)) (λ h. ap code_after (sym h)) g) c.in-TransPrim.is
    ∙ after_code c.in-Ok.mode _ c.in-Ok.ensures m e
