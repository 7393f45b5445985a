use Rattle.std.proofs.Common.{rules}
use Rattle.vector_tools.proofs.Lines.{end_stripped}
use Rattle.vector_tools.proofs.text.without_end.Goals as goal

pub returns : goal.returns
returns c = search (rules, end_stripped)
