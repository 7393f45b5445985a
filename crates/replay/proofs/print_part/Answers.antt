use Rattle.std.proofs.Common.{◌∙◌, rules}
use Rattle.replay.proofs.PartCode.{printing_starts, printing_on, printing_fits, printing_less, part_reads, part_stops, reads_fed}
use Rattle.replay.proofs.print_part.Goals as goal

pub loop-init : goal.loop-init
loop-init c = search (rules, printing_starts)

pub overflow_add-taken : goal.overflow_add-taken
overflow_add-taken c = printing_fits _ _ _ _ _ _ _ _ c.loop.invariant.0 _ c.loop.invariant.1 _ _ _ _ _ c.clear.ensures c.pass-turn.ensures.passed (search rules)

pub loop-smaller : goal.loop-smaller
loop-smaller c = printing_less _ _ _ _ _ _ _ _ c.loop.invariant.0 _ c.loop.invariant.1 _ _ _ _ _ c.clear.ensures c.pass-turn.ensures.passed c.in-On.is

pub loop-preserved : goal.loop-preserved
loop-preserved c = (printing_on _ _ _ _ _ _ _ _ c.loop.invariant.0 _ c.loop.invariant.1 _ _ _ _ _ c.clear.ensures c.pass-turn.ensures.passed c.in-On.is, c.pass-turn.ensures.servers ∙ c.loop.invariant.1)

pub returns-in-Read-clause-printed : goal.returns-in-Read-clause-printed
returns-in-Read-clause-printed c = part_reads _ _ _ _ _ _ _ _ c.loop.invariant.0 _ c.loop.invariant.1 _ _ _ _ _ c.clear.ensures c.pass-turn.ensures.passed c.in-Read.is

pub returns-in-Read-clause-fed : goal.returns-in-Read-clause-fed
returns-in-Read-clause-fed c = reads_fed _ _ _ _ _ _ _ _ c.loop.invariant.0 _ c.loop.invariant.1 _ _ _ _ _ c.clear.ensures c.pass-turn.ensures.passed c.shared_slice_known-1.given c.in-Read.is

pub returns-in-Stop-clause-printed : goal.returns-in-Stop-clause-printed
returns-in-Stop-clause-printed c = part_stops _ _ _ _ _ _ _ _ c.loop.invariant.0 _ c.loop.invariant.1 _ _ _ _ _ c.clear.ensures c.pass-turn.ensures.passed c.in-Stop.is
