use native.Mathlib.Omega.{arith}
use Rattle.octets.proofs.Cuts.{put_patched}
use Rattle.octets.proofs.blocks.copy.Goals as goal

pub returns : goal.returns
returns c = put_patched _ _ _ _ _ c.copy_from_slice.ensures.after (omega arith)
