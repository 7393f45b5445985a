use Rattle.pegs.proofs.ImageLaws.{number_zero, count_most}
use Rattle.register.proofs.Applied.{slots_in_lem, move_taken, move_missing}
use Rattle.register.specs.Payloads.{placed}
use native.Mathlib.Omega.{arith}
use borrow.Author.Rules.{rules}
use Rattle.register.proofs.move_peg.Goals as goal

pub overflow_cast-count : goal.overflow_cast-count
overflow_cast-count c = let b = c.of-held.result.bytes.now in omega (arith, c.count-count.ensures, count_most b (number_zero b c.of-held.result.reads))

pub replace-requires : goal.replace-requires
replace-requires c = search (rules, slots_in_lem)

pub returns-in-Ok : goal.returns-in-Ok
returns-in-Ok c =
    move_taken c.args.register.now c.requires.0 c.args.name.now c.in-Ok.index (rw c.of-held.ensures at c.in-Ok.ensures) c.requires.1 (placed c.args.place) c.replace.new.register c.replace.ensures

pub returns-in-Err : goal.returns-in-Err
returns-in-Err c = search (rules, move_missing)
