use mathlib.Core.Path.{◌≡◌}
use Rattle.base.proofs.Shifts.{shifted}
use Rattle.octets.proofs.moves.shift_up.Given as goal

abbrev pub invariant-loop-i : goal.invariant-loop-i
invariant-loop-i l = l.s ≡ shifted l.initial.s l.w l.i
