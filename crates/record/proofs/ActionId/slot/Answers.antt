use native.Mathlib.Omega.{arith}
use Rattle.record.specs.Values.{id_of, slot}
use Rattle.record.proofs.ActionId.slot.Goals as goal

pub returns : goal.returns
unfolding slot id_of
returns c = omega arith
