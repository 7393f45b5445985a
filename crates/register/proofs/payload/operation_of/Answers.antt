use Rattle.register.proofs.Payloads.{payload_short, name_unfit, name_long, other_retire, a_retire, other_size, a_set, a_move, other_byte}
use borrow.Author.Rules.{rules}
use Rattle.register.proofs.payload.operation_of.Goals as goal

pub returns-then-payload-lt-AT_NAME-clause-value : goal.returns-then-payload-lt-AT_NAME-clause-value
returns-then-payload-lt-AT_NAME-clause-value c = search (rules, payload_short)

pub returns-then-not-name_fits-clause-value : goal.returns-then-not-name_fits-clause-value
returns-then-not-name_fits-clause-value c = search (rules, name_unfit)

pub returns-then-payload-end-clause-value : goal.returns-then-payload-end-clause-value
returns-then-payload-end-clause-value c = search (rules, other_retire)

pub returns-then-operation-eq-RETIRE-clause-value : goal.returns-then-operation-eq-RETIRE-clause-value
returns-then-operation-eq-RETIRE-clause-value c = search (rules, a_retire)

pub returns-then-operation-eq-RETIRE-clause-fitting : goal.returns-then-operation-eq-RETIRE-clause-fitting
returns-then-operation-eq-RETIRE-clause-fitting c = search (rules, name_long)

pub returns-then-payload-end-2-clause-value : goal.returns-then-payload-end-2-clause-value
returns-then-payload-end-2-clause-value c = search (rules, other_size)

pub returns-in-1-clause-value : goal.returns-in-1-clause-value
returns-in-1-clause-value c = search (rules, a_set)

pub returns-in-1-clause-fitting : goal.returns-in-1-clause-fitting
returns-in-1-clause-fitting c = search (rules, name_long)

pub returns-in-2-clause-value : goal.returns-in-2-clause-value
returns-in-2-clause-value c = search (rules, a_move)

pub returns-in-2-clause-fitting : goal.returns-in-2-clause-fitting
returns-in-2-clause-fitting c = search (rules, name_long)

pub returns-in_default-clause-value : goal.returns-in_default-clause-value
returns-in_default-clause-value c = search (rules, other_byte)
