use Prim.Native.Nat.{◌-◌}
use mathlib.Core.Path.{◌≡◌}
use Rattle.state_check.specs.Tally.{tally_fits}
use Rattle.state_check.proofs.tally.tally_fits.Given as goal

abbrev pub invariant-loop-k : goal.invariant-loop-k
invariant-loop-k l = tally_fits l.c.quota l.t l.n 0 ≡ tally_fits l.c.quota l.t (l.n - l.k) l.k
