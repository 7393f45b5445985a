use Rattle.updates.proofs.RequestLaws.{index_fits, head_read}
use Rattle.queue.proofs.WhiteLaws.{such_queue}
use Rattle.image.proofs.InPlace.{such_header}
use native.Mathlib.Omega.{arith}
use borrow.Author.Rules.{rules}
use Rattle.updates.proofs.requests.next_head.Goals as goal

pub num8-requires : goal.num8-requires
num8-requires c = omega (arith, such_header _ _ c.requires)

pub num16-requires : goal.num16-requires
num16-requires c = omega (arith, such_header _ _ c.requires)

pub overflow_add-result : goal.overflow_add-result
overflow_add-result c = search (rules, index_fits)

pub green_length-requires : goal.green_length-requires
green_length-requires c = search (rules, such_queue)

pub white_length-requires : goal.white_length-requires
white_length-requires c = search (rules, such_queue)

pub returns : goal.returns
returns c = search (rules, head_read)
