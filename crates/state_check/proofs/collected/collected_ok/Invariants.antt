use Prim.Native.Nat.{◌-◌}
use mathlib.Core.Path.{◌≡◌}
use Rattle.record.specs.Context.{context_of}
use Rattle.state_check.specs.Collected.{collected_ok}
use Rattle.state_check.proofs.CollectedCode.{SlotsLeft}
use Rattle.state_check.proofs.collected.collected_ok.Given as goal

abbrev pub invariant-loop-k : goal.invariant-loop-k
invariant-loop-k l =
    SlotsLeft l.c l.k l.b l.here × (collected_ok (context_of l.c) l.set l.configuration l.c.servers 0 l.b l.at ≡ collected_ok (context_of l.c) l.set l.configuration (l.c.servers - l.k) l.k l.b l.here)
