-- The pairs hold by computation.
use mathlib.Core.Path.{refl}
use Rattle.replication.specs.Pairs.{Pairs}
use Rattle.replication.specs.Opened.{opened}

pub pairs_hold : Pairs
unfolding opened
pairs_hold = record {
  p1 = refl;
  p2 = refl;
  p2_others = refl;
  half_with_lowest_lem = refl;
  half_without_lowest = refl;
  half_with_server_0 = refl;
  p3 = refl;
  p4 = refl;
  p5 = refl;
  p6 = refl;
  p7 = refl;
  p8 = refl;
}
