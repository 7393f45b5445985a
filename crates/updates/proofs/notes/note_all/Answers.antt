use Rattle.updates.proofs.NoteAllLaws.{front_some, note_start, note_room, note_turn, note_end}
use mathlib.Core.Path.{refl}
use native.Mathlib.Omega.{arith}
use borrow.Author.Rules.{rules}
use Rattle.updates.proofs.notes.note_all.Goals as goal

pub num8-n-requires : goal.num8-n-requires
num8-n-requires c = search (rules, front_some)

pub loop-k-init : goal.loop-k-init
loop-k-init c = (refl, note_start _)

pub note_state-requires : goal.note_state-requires
note_state-requires c = search (rules, note_room, c.loop-k.invariant.1)

pub loop-k-preserved : goal.loop-k-preserved
loop-k-preserved c = (search rules, note_turn _ _ _ _ _ c.num8-n.ensures c.loop-k-test.true c.loop-k.invariant.1 c.note_state.ensures)

pub returns : goal.returns
returns c = search (rules, note_end, c.loop-k.invariant.1)
