use Rattle.register_check.proofs.Searched.{count_room}
use Rattle.register_check.proofs.contents.Register.count.Goals as goal

pub num16-requires : goal.num16-requires
num16-requires c = count_room c.args.self.bytes.now c.args.self.reads
