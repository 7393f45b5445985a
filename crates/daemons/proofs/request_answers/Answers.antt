use Rattle.daemons.proofs.RequestLaws.{request_answers}
use Rattle.daemons.proofs.request_answers.Goals as goal

pub returns : goal.returns
returns c = request_answers
