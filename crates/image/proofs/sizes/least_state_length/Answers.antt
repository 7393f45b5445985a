use mathlib.Core.Path.{◌∙◌}
use Rattle.image.specs.Layout.{state_length, least_state_length}
use Rattle.image.proofs.sizes.least_state_length.Goals as goal

pub returns : goal.returns
unfolding least_state_length
returns c = c.state_length.ensures ∙ (λ i. state_length (c.least.ensures.0 i) (c.least.ensures.1 i))
