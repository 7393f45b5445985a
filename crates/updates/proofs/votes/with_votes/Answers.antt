use Rattle.updates.specs.Standing.{vote_numbers}
use Rattle.image.specs.Header.{header_of}
use mathlib.Core.Path.{refl}
use Rattle.updates.proofs.votes.with_votes.Goals as goal

pub returns : goal.returns
unfolding header_of vote_numbers
returns c = λ s w e f. rw (e, f) refl
