use Rattle.updates.specs.Noting.{note_first}
use Rattle.image.specs.Holding.{Holds}
use Rattle.image.specs.Image.{image}
use Rattle.replication.specs.Machine.Types.{Server, with_noted}
use lib.ListN.{length}
use Prim.Native.Nat.{◌≤◌, ◌-◌}
use mathlib.Core.Path.{◌≡◌}
use Rattle.updates.proofs.notes.note_all.Given as goal

abbrev pub invariant-loop-k : goal.invariant-loop-k
invariant-loop-k l =
    (length l.state ≡ length l.initial.state) × ((s : Server) → Holds s l.initial.state → l.state ≡ image (with_noted (note_first l.k s.membership.states s.noted) s) l.initial.state)
