use native.Mathlib.Omega.{arith}
use Rattle.queries.proofs.SummaryLaws.{summary_made}
use borrow.Author.Rules.{rules}
use Rattle.queries.proofs.Summary.of.Goals as goal

pub overflow_cast-result-7 : goal.overflow_cast-result-7
overflow_cast-result-7 c = omega (arith, c.struct_known-7-1.given)

pub overflow_cast-result-8 : goal.overflow_cast-result-8
overflow_cast-result-8 c = omega (arith, c.struct_known-8-1.given)

pub overflow_cast-result-9 : goal.overflow_cast-result-9
overflow_cast-result-9 c = omega (arith, c.struct_known-10-1.given)

pub overflow_cast-result-10 : goal.overflow_cast-result-10
overflow_cast-result-10 c = omega (arith, c.struct_known-11-1.given)

pub overflow_cast-result-12 : goal.overflow_cast-result-12
overflow_cast-result-12 c = omega (arith, c.struct_known-12-1.given)

pub overflow_cast-result-13 : goal.overflow_cast-result-13
overflow_cast-result-13 c = omega (arith, c.struct_known-13-1.given)

pub returns : goal.returns
returns c = search (rules, summary_made)
