use Rattle.std.proofs.Common.{rules}
use Rattle.replay_lines.specs.Input.{meaning}
use Rattle.replay_lines.proofs.InputLaws.{unframed, out_of_range, says_setup, few_servers}
use Rattle.replay_lines.proofs.setup.Setup.read.Goals as goal

pub returns-then-not-is_framed : goal.returns-then-not-is_framed
unfolding meaning
returns-then-not-is_framed c = unframed _ _ c.is_framed.ensures.frame c.if-not-is_framed.true

pub returns-then-not-is_in_range : goal.returns-then-not-is_in_range
unfolding meaning
returns-then-not-is_in_range c =
    out_of_range _ _ c.is_framed.ensures.frame c.if-not-is_framed.false _ _ _ c.num8-servers.ensures c.num16-quota.ensures c.is_in_range.ensures c.if-not-is_in_range.true

pub invariant_of-result : goal.invariant_of-result
invariant_of-result c = record { few = few_servers _ _ _ c.is_in_range.ensures c.if-not-is_in_range.false }

pub returns : goal.returns
unfolding meaning
returns c =
    says_setup _ _ c.is_framed.ensures.frame c.if-not-is_framed.false _ _ _ c.num8-servers.ensures c.num16-quota.ensures c.is_in_range.ensures c.if-not-is_in_range.false
