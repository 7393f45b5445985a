use native.Mathlib.Omega.{arith}
use Rattle.record.specs.Values.{id_of, slot}
use Rattle.install.proofs.table.entry.Goals as goal

pub returns : goal.returns
unfolding slot id_of
returns c = (c.slot.ensures, omega (arith, c.slot.ensures))
