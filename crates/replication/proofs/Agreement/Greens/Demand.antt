-- Demand 3: in every allowed run all green lists agree, and all primary components; so they do with stray events.
use Rattle.replication.specs.Runs.Claim.{Demand3, Corollaries}
use Rattle.replication.proofs.Runs.Strays.{strays_agree, strays_follow}
use Rattle.replication.proofs.Agreement.Greens.Whole.{agreement, consequences}
use Rattle.replication.proofs.Agreement.Whites.Room.{roomy}

pub demand3 : Demand3
unfolding Demand3
demand3 n q l S = strays_agree S (agreement (roomy S.rest))

pub corollaries : Corollaries
unfolding Corollaries
corollaries n q l S = strays_follow S (consequences (roomy S.rest))
