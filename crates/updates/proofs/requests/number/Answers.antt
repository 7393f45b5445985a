use Rattle.updates.proofs.RequestLaws.{index_fits, own_fits_lem, own_room, request_numbered}
use Rattle.image.proofs.Counts.{such_counts}
use Rattle.image.proofs.InPlace.{such_header}
use native.Mathlib.Omega.{arith}
use borrow.Author.Rules.{rules}
use Rattle.updates.proofs.requests.number.Goals as goal

pub place_of-at-requires : goal.place_of-at-requires
place_of-at-requires c = search (rules, such_counts)

pub num16-own-requires : goal.num16-own-requires
num16-own-requires c = omega (arith, such_header _ _ c.requires.holds)

pub num16-numbered-requires : goal.num16-numbered-requires
num16-numbered-requires c = omega (arith, such_header _ _ c.requires.holds)

pub overflow_add-at : goal.overflow_add-at
overflow_add-at c = omega (arith, such_counts _ _ c.requires.holds)

pub overflow_add-numbered : goal.overflow_add-numbered
overflow_add-numbered c = search (rules, index_fits)

pub overflow_add-own : goal.overflow_add-own
overflow_add-own c = search (rules, own_fits_lem)

pub push_own-requires : goal.push_own-requires
push_own-requires c = search (rules, own_room)

pub returns : goal.returns
returns c = search (rules, request_numbered)
