use mathlib.Core.List.{List}
use mathlib.Core.Path.{sym, ap, ◌∙◌}
use Prim.Native.Nat.{ℕ}
use Rattle.base.specs.Patched.{patched}
use Rattle.base.proofs.BytesLaws.{bytes4}
use Rattle.octets.proofs.numbers.put32.Goals as goal

pub returns : goal.returns
returns c = c.copy.ensures ∙ ap (λ (b : List ℕ). patched c.args.at b c.args.out.now) (c.to_be_bytes.ensures ∙ sym (bytes4 c.args.v))
