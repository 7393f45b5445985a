use Rattle.std.proofs.Common.{◌≡◌, ◌-◌, length}
use Rattle.replay.proofs.PartCode.{Printing}
use Rattle.replay.proofs.print_part.Given as goal

abbrev pub invariant-loop : goal.invariant-loop
invariant-loop l =
    Printing l.initial.replay.table l.initial.replay.servers l.initial.replay.event l.input l.ended l.replay.table l.replay.event l.taken
    × (l.replay.servers ≡ l.initial.replay.servers)

abbrev pub decreases-loop : goal.decreases-loop
decreases-loop l = length l.input - l.taken
