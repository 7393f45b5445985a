use Rattle.updates.proofs.NoteLaws.{note_kept, note_raised}
use borrow.Author.Rules.{rules}
use Rattle.updates.proofs.notes.note.Goals as goal

pub returns-then-num32-l : goal.returns-then-num32-l
returns-then-num32-l c = search (rules, note_raised)

pub returns-else-num32-l : goal.returns-else-num32-l
returns-else-num32-l c = search (rules, note_kept)
