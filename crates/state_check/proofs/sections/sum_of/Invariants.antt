use Prim.Native.Nat.{◌+◌, ◌*◌, ◌-◌, ◌≤◌}
use mathlib.Core.Path.{◌≡◌}
use Rattle.base.specs.Bytes.{numbers_at}
use Rattle.base.specs.Lists.{sum}
use Rattle.format.specs.Limits.{most_number_limit}
use Rattle.state_check.proofs.sections.sum_of.Given as goal

abbrev pub invariant-loop-k : goal.invariant-loop-k
invariant-loop-k l =
    (l.total ≤ most_number_limit * l.k) × (l.total + sum (numbers_at 2 (l.n - l.k) l.b (l.at + 2 * l.k)) ≡ sum (numbers_at 2 l.n l.b l.at))
