use Rattle.daemons.proofs.OutgoingLaws.{outgoing_records}
use Rattle.daemons.proofs.outgoing_records.Goals as goal

pub returns : goal.returns
returns c = outgoing_records
