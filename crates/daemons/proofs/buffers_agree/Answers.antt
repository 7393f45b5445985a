use Rattle.daemons.proofs.Agreement.{buffers_demand}
use Rattle.daemons.proofs.buffers_agree.Goals as goal

pub returns : goal.returns
returns c = buffers_demand
