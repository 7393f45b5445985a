use Rattle.std.proofs.Common.{rules}
use Rattle.replay.proofs.ReadingLaws.{refilled, refilled_counts}
use Rattle.replay.proofs.input.Input.refill.Goals as goal

pub invariant_of-result : goal.invariant_of-result
invariant_of-result c = search (rules, refilled_counts)

pub returns : goal.returns
returns c = search (rules, refilled)
