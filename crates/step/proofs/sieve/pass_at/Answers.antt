use Rattle.step.proofs.SieveLaws.{sift_at_zero, sift_at_above, sift_at_green}
use Rattle.queue.proofs.WhiteLaws.{such_queue}
use borrow.Author.Rules.{rules}
use Rattle.step.proofs.sieve.pass_at.Goals as goal

pub returns-then-position-eq0 : goal.returns-then-position-eq0
returns-then-position-eq0 c =
    sift_at_zero _ _ _ c.if-position-eq0.true _ _ c.pass.ensures

pub green_length-requires : goal.green_length-requires
green_length-requires c = search (rules, such_queue)

pub returns-then-green_length-position : goal.returns-then-green_length-position
returns-then-green_length-position c =
    sift_at_above _ _ _ c.if-position-eq0.false _ c.green_length.ensures.computes c.if-green_length-position.true _ _ c.pass-then-green_length-position.ensures

pub returns : goal.returns
returns c =
    sift_at_green _ _ _ c.if-position-eq0.false _ c.green_length.ensures.computes c.if-green_length-position.false
