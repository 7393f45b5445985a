use Rattle.std.proofs.Common.{arith}
use Rattle.format.specs.Setup.{setup_frame_ok}
use Rattle.replay_lines.proofs.InputLaws.{chain}
use Rattle.replay_lines.proofs.setup.Setup.is_framed.Goals as goal

pub returns-then-num8-eq-VERSION-clause-frame : goal.returns-then-num8-eq-VERSION-clause-frame
unfolding setup_frame_ok
returns-then-num8-eq-VERSION-clause-frame c = grind (arith, chain)

pub returns-else-num8-eq-VERSION-clause-frame : goal.returns-else-num8-eq-VERSION-clause-frame
unfolding setup_frame_ok
returns-else-num8-eq-VERSION-clause-frame c = grind (arith, chain)
