use Rattle.std.proofs.Common.{arith, rules}
use Rattle.replay_servers.proofs.CoreLaws.{count_again, count_less, count_end}
use Rattle.replay_servers.proofs.records.count.Goals as goal

pub loop-rest-preserved : goal.loop-rest-preserved
loop-rest-preserved c = let less = count_less _ _ c.loop-rest-test.true c.behind-rest.ensures in search (rules, count_again)

pub loop-rest-smaller : goal.loop-rest-smaller
loop-rest-smaller c = let less = count_less _ _ c.loop-rest-test.true c.behind-rest.ensures in omega arith

pub returns : goal.returns
returns c = search (rules, count_end)
