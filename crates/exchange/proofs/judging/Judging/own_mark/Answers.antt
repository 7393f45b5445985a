use borrow.Author.Rules.{rules}
use Rattle.base.specs.Tests.{◌=?◌}
use Rattle.exchange.specs.Folds.{Tells}
use Rattle.exchange.proofs.JudgedLaws.{own_cleared, own_judged, sender_told}
use Rattle.exchange.proofs.judging.Judging.own_mark.Goals as goal

pub returns-in-Some : goal.returns-in-Some
unfolding Tells
returns-in-Some c =
    own_judged _ _ _ _ _ (c.in-Some.ensures.found (λ s. s.sender =? c.args.me) (λ k r l m e. search (rules, sender_told))) c.judged.ensures

pub returns-in-None : goal.returns-in-None
unfolding Tells
returns-in-None c =
    own_cleared _ _ _ _ (c.in-None.ensures.found (λ s. s.sender =? c.args.me) (λ k r l m e. search (rules, sender_told))) c.cleared.ensures
