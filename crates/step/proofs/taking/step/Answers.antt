use Rattle.step.proofs.RaiseLaws.{raise_ready, step_raised, step_unraised}
use Rattle.std.proofs.lemmas.Result.{err_from_is_err_and}
use mathlib.Core.Path.{refl}
use Rattle.step.proofs.taking.step.Goals as goal

pub returns-in_err-a : goal.returns-in_err-a
returns-in_err-a c =
    let p = err_from_is_err_and c.from_residual.result c.from_residual.ensures.1 in
    rw (p.1, p.2) (step_unraised _ _ _ c.requires _ _ _ _ c.in_err-a.ensures refl)

pub raise-requires : goal.raise-requires
raise-requires c =
    raise_ready _ _ _ c.requires _ _ _ _ c.in_ok-a.ensures

pub returns : goal.returns
returns c =
    step_raised _ _ _ c.requires _ _ _ _ c.in_ok-a.ensures _ c.raise.ensures
