use Rattle.reader.proofs.Callers.{good_placed}
use Rattle.std.proofs.Common.{rules}
use Rattle.vectors.proofs.writing.say.Goals as goal

pub event-requires : goal.event-requires
event-requires g c = search (rules, good_placed)
