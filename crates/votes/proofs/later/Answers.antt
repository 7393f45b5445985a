use native.Mathlib.Omega.{arith}
use Rattle.base.specs.Tests.{◌and◌, ◌or◌, ◌=?◌, ◌<?◌}
use Rattle.record.specs.Values.{primary_of}
use Rattle.replication.specs.Machine.Exchange.{later as is_later}
use Rattle.votes.proofs.later.Goals as goal

pub returns-then-p-r : goal.returns-then-p-r
unfolding is_later primary_of ◌or◌ ◌<?◌
returns-then-p-r c = grind arith

pub returns-then-eq : goal.returns-then-eq
unfolding is_later primary_of ◌and◌ ◌or◌ ◌=?◌ ◌<?◌
returns-then-eq c = grind arith

pub returns-else-eq : goal.returns-else-eq
unfolding is_later primary_of ◌and◌ ◌or◌ ◌=?◌ ◌<?◌
returns-else-eq c = grind arith
