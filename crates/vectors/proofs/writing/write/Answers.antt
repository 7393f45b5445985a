use Rattle.reader.proofs.Callers.{good_placed}
use Rattle.std.proofs.Common.{rules}
use Rattle.vectors.proofs.writing.write.Goals as goal

pub sized-requires : goal.sized-requires
sized-requires g c = search (rules, good_placed)
