use native.Mathlib.Omega.{arith}
use Rattle.reader.specs.Reading.{numbers_ok}
use Rattle.record.specs.Values.{state_of}
use Rattle.record.specs.Context.{context_of}
use Rattle.format.specs.Range.{length_ok}
use Rattle.record.proofs.Chains.{chain}
use Rattle.reader.proofs.numbers_ok.Goals as goal

pub returns-then-mark_ok : goal.returns-then-mark_ok
unfolding numbers_ok state_of context_of length_ok
returns-then-mark_ok c cuts ids at start = grind (arith, chain)

pub returns-else-mark_ok : goal.returns-else-mark_ok
unfolding numbers_ok state_of context_of length_ok
returns-else-mark_ok c cuts ids at start = grind (arith, chain)
