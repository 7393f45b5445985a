use mathlib.Core.Path.{subst}
use Rattle.updates.proofs.NumberLaws.{numbers_saved}
use Rattle.updates.proofs.numbers.change.Goals as goal

pub returns : goal.returns
returns g c = (c.f-t.result, subst (λ h. goal.F-post g c.args.f h c.f-t.result) c.load-h.ensures c.f-t.ensures, numbers_saved _ _ _ c.save.ensures)
