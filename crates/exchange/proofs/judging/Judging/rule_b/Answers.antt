use borrow.Author.Rules.{rules}
use Rattle.record.specs.Values.{mark_of}
use Rattle.exchange.specs.Folds.{Tells}
use Rattle.exchange.specs.Marks.{against}
use Rattle.exchange.proofs.MarkLaws.{rule_b_made}
use Rattle.exchange.proofs.judging.Judging.rule_b.Goals as goal

pub returns : goal.returns
unfolding Tells
returns c = rule_b_made _ _ _ (c.any.ensures (against (mark_of c.args.m)) (λ k r l m e. search rules))
