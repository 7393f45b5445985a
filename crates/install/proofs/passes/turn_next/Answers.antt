use Rattle.std.specs.Prelude.{Some, None}
use native.Mathlib.Omega.{arith}
use Rattle.install.proofs.NextLaws.{next_as}
use Rattle.install.proofs.PassLaws.{turned_to_end}
use Rattle.install.proofs.passes.turn_next.Goals as goal

pub returns-in-Some : goal.returns-in-Some
returns-in-Some c =
    c.turn_up_to.ensures _ _ (next_as (Some c.in-Some.k) _ _ _ _ _ c.in-Some.ensures c.reds.ensures.state c.reds.ensures.first) (omega arith)

pub returns-in-None : goal.returns-in-None
returns-in-None c =
    turned_to_end _ _ c.requires.0 _ _ _ (next_as None _ _ _ _ _ c.in-None.ensures c.reds.ensures.state c.reds.ensures.first) (omega arith)
