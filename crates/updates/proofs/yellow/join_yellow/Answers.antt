use native.Mathlib.Omega.{arith}
use Rattle.updates.proofs.YellowLaws.{list_full}
use borrow.Author.Rules.{rules}
use Rattle.updates.proofs.yellow.join_yellow.Goals as goal

pub num16-requires : goal.num16-requires
num16-requires c = omega arith

pub returns-then-most_ids-num16 : goal.returns-then-most_ids-num16
returns-then-most_ids-num16 c = search (rules, list_full)

pub join_with_room-requires : goal.join_with_room-requires
join_with_room-requires c = (search rules, omega arith)
