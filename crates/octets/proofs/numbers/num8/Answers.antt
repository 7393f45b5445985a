use mathlib.Core.Path.{sym}
use Rattle.base.proofs.BytesLaws.{number1}
use Rattle.octets.proofs.numbers.num8.Goals as goal

pub returns : goal.returns
returns c = sym (number1 c.args.e.now c.args.at)
