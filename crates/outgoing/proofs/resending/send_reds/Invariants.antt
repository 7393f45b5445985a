use Rattle.outgoing.specs.Resending.{red_parts, Sends}
use lib.ListN.{length}
use Rattle.outgoing.proofs.resending.send_reds.Given as goal

abbrev pub invariant-loop-c : goal.invariant-loop-c
invariant-loop-c l = Sends (length (red_parts l.state l.c)) (red_parts l.state l.c) l.initial.out l.out l.sent
