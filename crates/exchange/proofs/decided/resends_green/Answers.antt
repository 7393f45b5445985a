use native.Mathlib.Omega.{arith}
use Rattle.image.proofs.InPlace.{such_header}
use Rattle.replication.specs.Machine.Plan.{green_in}
use Rattle.exchange.specs.Folds.{Tells}
use Rattle.exchange.proofs.ReadLaws.{green_read}
use Rattle.exchange.proofs.DecidedLaws.{part_told}
use borrow.Author.Rules.{rules}
use Rattle.exchange.proofs.decided.resends_green.Goals as goal

pub num8-me-requires : goal.num8-me-requires
num8-me-requires c = omega (arith, such_header _ _ c.requires)

pub returns : goal.returns
unfolding Tells
returns c =
    part_told _ _ _ c.held-states.ensures.slots c.held-states.ensures.bytes green_in _ _ c.num8-me.ensures
    (c.part.ensures green_in (λ k r l m e. search (rules, green_read)))
