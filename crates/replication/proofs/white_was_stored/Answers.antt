use Rattle.replication.proofs.Agreement.Greens.Resending.{white_was_stored}
use Rattle.replication.proofs.white_was_stored.Goals as goal

pub returns : goal.returns
returns c = white_was_stored
