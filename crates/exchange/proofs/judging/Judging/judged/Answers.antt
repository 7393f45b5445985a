use borrow.Author.Rules.{rules}
use Rattle.exchange.proofs.JudgedLaws.{judged_unmarked, judged_a, judged_b, judged_c, judged_kept, kept_made}
use Rattle.exchange.proofs.judging.Judging.judged.Goals as goal

pub returns-then-m-ne1 : goal.returns-then-m-ne1
returns-then-m-ne1 c = search (rules, judged_unmarked)

pub returns-then-rule_a : goal.returns-then-rule_a
returns-then-rule_a c = search (rules, judged_a)

pub returns-then-rule_b : goal.returns-then-rule_b
returns-then-rule_b c = search (rules, judged_b)

pub returns-then-inside : goal.returns-then-inside
returns-then-inside c = search (rules, judged_c)

pub returns : goal.returns
returns c = search (rules, kept_made, judged_kept)
