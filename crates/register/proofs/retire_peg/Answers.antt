use Rattle.pegs.proofs.ImageLaws.{number_zero, count_most}
use Rattle.register.proofs.Applied.{slots_in_lem, retire_taken, retire_missing}
use native.Mathlib.Omega.{arith}
use borrow.Author.Rules.{rules}
use Rattle.register.proofs.retire_peg.Goals as goal

pub overflow_cast-count : goal.overflow_cast-count
overflow_cast-count c = let b = c.of-held.result.bytes.now in omega (arith, c.count-count.ensures, count_most b (number_zero b c.of-held.result.reads))

pub remove-requires : goal.remove-requires
remove-requires c = search (rules, slots_in_lem)

pub returns-in-Ok : goal.returns-in-Ok
returns-in-Ok c = search (rules, retire_taken)

pub returns-in-Err : goal.returns-in-Err
returns-in-Err c = search (rules, retire_missing)
