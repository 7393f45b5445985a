use Rattle.register.proofs.Applied.{set_there, set_full, set_room, set_taken}
use native.Mathlib.Omega.{arith}
use Rattle.register.specs.Payloads.{placed}
use borrow.Author.Rules.{rules}
use Rattle.register.proofs.set_peg.Goals as goal

pub returns-in-Ok : goal.returns-in-Ok
returns-in-Ok c = search (rules, set_there)

pub returns-then-count-ge-MOST_PEGS : goal.returns-then-count-ge-MOST_PEGS
returns-then-count-ge-MOST_PEGS c = search (rules, set_full)

pub insert-requires : goal.insert-requires
insert-requires c = (search (rules, set_room), search rules)

pub returns-else-count-ge-MOST_PEGS : goal.returns-else-count-ge-MOST_PEGS
returns-else-count-ge-MOST_PEGS c =
    set_taken c.args.register.now c.requires.0 c.args.name.now c.in-Err.index (rw c.of-held.ensures at c.in-Err.ensures) (placed c.args.place) c.count-count.result (search rules)
    (omega arith) c.requires.1 c.insert.new.register c.insert.ensures
