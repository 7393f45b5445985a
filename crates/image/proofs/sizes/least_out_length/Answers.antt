use mathlib.Core.Path.{◌∙◌}
use Rattle.image.specs.Layout.{out_length, least_out_length}
use Rattle.image.proofs.sizes.least_out_length.Goals as goal

pub returns : goal.returns
unfolding least_out_length
returns c = c.out_length.ensures ∙ (λ i. out_length (c.least.ensures.0 i) (c.least.ensures.1 i))
