use native.Mathlib.Omega.{arith}
use Rattle.updates.proofs.YellowLaws.{id_there, id_new}
use borrow.Author.Rules.{rules}
use Rattle.updates.proofs.yellow.join_with_room.Goals as goal

pub num16-count-requires : goal.num16-count-requires
num16-count-requires c = omega arith

pub has_id-requires : goal.has_id-requires
has_id-requires c = omega arith

pub returns-then-has_id : goal.returns-then-has_id
returns-then-has_id c = search (rules, id_there)

pub overflow_add-at : goal.overflow_add-at
overflow_add-at c = omega arith

pub add_id-requires : goal.add_id-requires
add_id-requires c = (omega arith, omega arith, omega arith)

pub returns : goal.returns
returns c = search (rules, id_new)
