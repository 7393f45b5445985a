use Rattle.std.proofs.Common.{◌∙◌, rules}
use Rattle.replay_turns.proofs.PassCode.{along_starts, along_on, along_fits, along_less, pass_full, pass_ends}
use Rattle.replay_turns.proofs.Replay.pass.Goals as goal

pub loop-self-init : goal.loop-self-init
loop-self-init g c = search (rules, along_starts)

pub overflow_add-taken : goal.overflow_add-taken
overflow_add-taken g c = search (rules, along_fits)

pub loop-self-smaller : goal.loop-self-smaller
loop-self-smaller g c = search (rules, along_less)

pub loop-self-preserved : goal.loop-self-preserved
loop-self-preserved g c = (
  along_on _ _ _ _ _ _ _ _ _ _ _ c.loop-self.invariant.0 _ c.loop-self.invariant.1 _ _ _ c.take_turn-turn.ensures.took _
      c.take_turn-turn.ensures.event _ c.remaining_capacity.ensures c.loop-self-test.true _ c.in-On.is (search rules),
  c.take_turn-turn.ensures.servers ∙ c.loop-self.invariant.1,
)

pub returns-in_default-clause-passed : goal.returns-in_default-clause-passed
returns-in_default-clause-passed g c =
    pass_ends _ _ _ _ _ _ _ _ _ _ _ c.loop-self.invariant.0 _ c.loop-self.invariant.1 _ _ _ c.take_turn-turn.ensures.took _
    c.take_turn-turn.ensures.event _ c.remaining_capacity.ensures c.loop-self-test.true c.in_default.not-On

pub returns-clause-passed : goal.returns-clause-passed
returns-clause-passed g c = search (rules, pass_full)
