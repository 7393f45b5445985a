use Rattle.updates.proofs.NoteAllLaws.{slot_empty, slot_noted}
use borrow.Author.Rules.{rules}
use Rattle.updates.proofs.notes.note_state.Goals as goal

pub returns-then-is_in : goal.returns-then-is_in
returns-then-is_in c = search (rules, slot_noted, c.note.ensures)

pub returns-else-is_in : goal.returns-else-is_in
returns-else-is_in c = search (rules, slot_empty)
