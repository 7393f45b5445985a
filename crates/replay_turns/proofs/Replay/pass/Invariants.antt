use Rattle.std.proofs.Common.{◌≡◌, ◌-◌, length}
use Rattle.replay_turns.proofs.PassCode.{Along}
use Rattle.replay_turns.proofs.Replay.pass.Given as goal

abbrev pub invariant-loop-self : goal.invariant-loop-self
invariant-loop-self g l =
    Along l.initial.self.table l.initial.self.servers l.initial.self.event l.input l.ended (g.row.N - length l.initial.out.bytes) l.initial.out.bytes
    l.self.table l.self.event l.taken l.out.bytes
    × (l.self.servers ≡ l.initial.self.servers)

abbrev pub decreases-loop-self : goal.decreases-loop-self
decreases-loop-self g l = length l.input - l.taken
