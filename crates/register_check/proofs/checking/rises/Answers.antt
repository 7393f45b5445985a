use Rattle.register_check.proofs.CheckCode.{rises_start, word_equal, word_other, words_end}
use borrow.Author.Rules.{rules}
use Rattle.register_check.proofs.checking.rises.Goals as goal

pub loop-j-init : goal.loop-j-init
loop-j-init c = search (rules, rises_start)

pub returns-then-x-y : goal.returns-then-x-y
returns-then-x-y c = search (rules, word_other)

pub loop-j-preserved : goal.loop-j-preserved
loop-j-preserved c = search (rules, word_equal)

pub returns : goal.returns
returns c = search (rules, words_end)
