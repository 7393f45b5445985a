use Prim.Native.Nat.{◌<◌}
use native.Mathlib.Omega.{arith}
use Rattle.image.proofs.InPlace.{such_header}
use Rattle.replication.specs.Machine.Plan.{cut_in}
use Rattle.exchange.specs.Folds.{Tells}
use Rattle.exchange.proofs.DecidedLaws.{red_below, part_told}
use borrow.Author.Rules.{rules}
use Rattle.exchange.proofs.decided.resends_red.Goals as goal

pub num8-me-requires : goal.num8-me-requires
num8-me-requires c = omega (arith, such_header _ _ c.requires)

pub part-requires : goal.part-requires
part-requires c =
    let below : c.args.c < c.held-states.result.slots.servers = red_below _ _ _ c.requires c.held-states.ensures.slots in
    search rules

pub returns : goal.returns
unfolding Tells
returns c =
    part_told _ _ _ c.held-states.ensures.slots c.held-states.ensures.bytes (cut_in c.args.c) _ _ c.num8-me.ensures
    (c.part.ensures (cut_in c.args.c) (λ k r l m e. search rules))
