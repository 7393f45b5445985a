use Rattle.base.specs.Text.{ascii}
use Rattle.replay_lines.proofs.LineLaws.{mode_names}
use Rattle.std.proofs.Common.{rules}
use Rattle.replay_lines.proofs.line.name_of.Goals as goal

pub returns-in-1-clause-text : goal.returns-in-1-clause-text
unfolding ascii
returns-in-1-clause-text c = search (rules, mode_names)

pub returns-in-2-clause-text : goal.returns-in-2-clause-text
unfolding ascii
returns-in-2-clause-text c = search (rules, mode_names)

pub returns-in-3-clause-text : goal.returns-in-3-clause-text
unfolding ascii
returns-in-3-clause-text c = search (rules, mode_names)

pub returns-in-4-clause-text : goal.returns-in-4-clause-text
unfolding ascii
returns-in-4-clause-text c = search (rules, mode_names)

pub returns-in-5-clause-text : goal.returns-in-5-clause-text
unfolding ascii
returns-in-5-clause-text c = search (rules, mode_names)

pub returns-in-6-clause-text : goal.returns-in-6-clause-text
unfolding ascii
returns-in-6-clause-text c = search (rules, mode_names)

pub returns-in-7-clause-text : goal.returns-in-7-clause-text
unfolding ascii
returns-in-7-clause-text c = search (rules, mode_names)

pub returns-in_default-clause-text : goal.returns-in_default-clause-text
unfolding ascii
returns-in_default-clause-text c = search (rules, mode_names)
