use borrow.Author.Rules.{rules}
use native.Mathlib.Omega.{arith}
use Rattle.votes.proofs.VoteLaws.{twice_fits, vote_more, vote_fewer, vote_half}
use Rattle.votes.proofs.linear_vote.Goals as goal

pub overflow_mul-twice : goal.overflow_mul-twice
overflow_mul-twice c = let z = twice_fits c.args.p.set c.args.here (omega arith) in omega arith

pub returns-then-all-twice : goal.returns-then-all-twice
returns-then-all-twice c = search (rules, vote_more)

pub returns-then-twice-all : goal.returns-then-twice-all
returns-then-twice-all c = search (rules, vote_half)

pub returns-else-twice-all : goal.returns-else-twice-all
returns-else-twice-all c = search (rules, vote_fewer)
