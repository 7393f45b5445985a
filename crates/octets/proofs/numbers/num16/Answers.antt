use mathlib.Core.Path.{sym, ◌∙◌}
use Rattle.base.proofs.BytesLaws.{number2}
use Rattle.octets.proofs.numbers.num16.Goals as goal

pub returns : goal.returns
returns c = c.from_be_bytes.ensures ∙ sym (number2 c.args.e.now c.args.at)
