use mathlib.Core.Path.{sym, ◌∙◌}
use Rattle.base.proofs.BytesLaws.{number4}
use Rattle.octets.proofs.numbers.num32.Goals as goal

pub returns : goal.returns
returns c = c.from_be_bytes.ensures ∙ sym (number4 c.args.e.now c.args.at)
