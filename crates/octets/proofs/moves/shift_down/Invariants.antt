use Rattle.base.specs.Patched.{patched}
use lib.ListN.{take, drop}
use mathlib.Core.Path.{◌≡◌}
use Rattle.octets.proofs.moves.shift_down.Given as goal

abbrev pub invariant-loop-i : goal.invariant-loop-i
invariant-loop-i l = l.s ≡ patched 0 (take l.i (drop l.w l.initial.s)) l.initial.s
