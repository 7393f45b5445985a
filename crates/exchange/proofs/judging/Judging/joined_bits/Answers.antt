use borrow.Author.Rules.{rules}
use Rattle.record.specs.Values.{mark_of}
use Rattle.exchange.specs.Folds.{Steps}
use Rattle.exchange.specs.Marks.{joined_with}
use Rattle.exchange.proofs.MarkLaws.{join_made}
use Rattle.exchange.proofs.judging.Judging.joined_bits.Goals as goal

pub returns : goal.returns
unfolding Steps
returns c =
    join_made _ _ _ (c.fold.ensures (joined_with (mark_of c.args.m)) (λ bits k r l m e. let own = c.args.self.now.room.senders k l m in search rules))
