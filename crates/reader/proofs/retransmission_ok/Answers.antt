use native.Mathlib.Omega.{arith}
use Rattle.record.specs.Context.{context_of}
use Rattle.format.specs.Range.{fields_ok, length_ok}
use Rattle.record.proofs.Chains.{chain}
use Rattle.reader.proofs.retransmission_ok.Goals as goal

pub returns-then-length_ok : goal.returns-then-length_ok
unfolding fields_ok length_ok context_of
returns-then-length_ok c e b i = let p = c.action_ok.ensures e b i in grind (arith, chain, p)

pub returns-else-length_ok : goal.returns-else-length_ok
unfolding fields_ok length_ok context_of
returns-else-length_ok c e b i = grind (arith, chain)
