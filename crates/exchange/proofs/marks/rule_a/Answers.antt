use Rattle.exchange.proofs.MarkLaws.{rule_a_low, rule_a_told}
use borrow.Author.Rules.{rules}
use Rattle.exchange.proofs.marks.rule_a.Goals as goal

pub returns-then-p-m : goal.returns-then-p-m
returns-then-p-m c = search (rules, rule_a_low)

pub returns : goal.returns
returns c = search (rules, rule_a_told)
