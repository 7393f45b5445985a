use Rattle.step.proofs.ColoursLaws.{note_room, green_noted}
use Rattle.step.proofs.colours.green_and_note.Goals as goal

pub note-requires : goal.note-requires
note-requires c = note_room _ _ _ _ c.requires c.green.ensures

pub returns : goal.returns
returns c =
    green_noted _ _ _ _ _
    c.requires
    c.green.ensures
    c.note.ensures
