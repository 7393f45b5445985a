-- K13: how much must arrive before corners settle.
use native.Mathlib.Omega.{arith}
use Rattle.replication.specs.Runs.Settling.{Settling}
use Rattle.replication.proofs.Agreement.Whites.Room.{roomy}
use Rattle.replication.proofs.Agreement.Settling.Sends as S
use Rattle.replication.proofs.Agreement.Settling.Moments.{reg_prim_arrived, arrived_reg_prim, arrives}
use Rattle.replication.proofs.Agreement.Settling.Greens as G

pub settling : Settling
unfolding Settling
settling n q l allowed c r agreed =
    let A = roomy allowed in
    record {
      sends_state = S.sends_state A c r;
      sends_part = λ k p u few all some. S.sends_part A c r agreed k p u few all some;
      sends_cpc = λ k p u now before. S.sends_cpc A c r agreed k p u now before;
      is_sent = S.is_sent A c r;
      in_reg_prim_lem = λ k p u. (reg_prim_arrived A c r agreed k p u, arrived_reg_prim A c r agreed k p u);
      arrives = arrives A c r agreed;
      greens_equal = G.greens_equal A c r agreed;
      greens_hold = λ j k p x m a i. G.greens_hold A c r agreed k p x _ (omega arith) j m a i;
    }
