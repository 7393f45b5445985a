use native.Mathlib.Omega.{arith}
use Rattle.reader.proofs.Fields.{payload_law}
use Rattle.record.specs.Values.{action_of}
use Rattle.record.specs.Events.{action_from, PayloadInside}
use Rattle.format.specs.Range.{action_ok, length_ok}
use Rattle.record.proofs.Chains.{chain}
use Rattle.reader.proofs.action_ok.Goals as goal

pub returns-then-length_ok-2 : goal.returns-then-length_ok-2
unfolding action_ok action_from action_of length_ok PayloadInside
returns-then-length_ok-2 c e b i =
    let p = payload_law e c.args.a.payload_at c.args.a.payload_length b i in
    grind (arith, chain, p)

pub returns-else-length_ok-2 : goal.returns-else-length_ok-2
unfolding action_ok action_from action_of length_ok
returns-else-length_ok-2 c e b i = grind (arith, chain)
