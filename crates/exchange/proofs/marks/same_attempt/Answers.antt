use native.Mathlib.Omega.{arith}
use Rattle.base.specs.Tests.{◌and◌, ◌=?◌}
use Rattle.record.specs.Values.{mark_of}
use Rattle.replication.specs.Machine.Exchange.{same_attempt_of}
use Rattle.exchange.proofs.marks.same_attempt.Goals as goal

pub returns-then-eq : goal.returns-then-eq
unfolding same_attempt_of mark_of ◌and◌ ◌=?◌
returns-then-eq c = grind arith

pub returns-else-eq : goal.returns-else-eq
unfolding same_attempt_of mark_of ◌and◌ ◌=?◌
returns-else-eq c = grind arith
