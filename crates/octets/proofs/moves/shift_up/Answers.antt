use native.Mathlib.Omega.{arith}
use Prim.Native.Nat.{suc, ◌-◌}
use mathlib.Core.Path.{◌≡◌, ap, ◌∙◌}
use Rattle.base.proofs.Shifts.{shifted, up_turn}
use Rattle.octets.proofs.moves.shift_up.Goals as goal

pub loop-i-preserved : goal.loop-i-preserved
loop-i-preserved c =
    let l = c.loop-i in
    let e : l.i ≡ suc (l.i - 1) = omega arith in
    up_turn c.args.s.now _ _ _ (omega arith) (l.invariant ∙ ap (shifted c.args.s.now c.args.w) e)
