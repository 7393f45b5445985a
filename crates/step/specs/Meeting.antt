-- K6: the state that an event's action meets, if the event is taken: in Un the one after Install's part of the log. What Install turns green there
-- may be white when the first stage ends, so whoever reads what turned green looks here first.
use Rattle.std.specs.Prelude.{ℕ, ◌≡◌, Bool, List}
use Rattle.std.proofs.Math.Option.{Option, none, some}
use Rattle.base.specs.Tests.{pick}
use Rattle.format.specs.Types.{Record, Reading, says}
use Rattle.format.specs.Read.{read}
use Rattle.replication.specs.Machine.Types.{Server, context_of, with_log}
use Rattle.replication.specs.Machine.Install.{install_log}
use Rattle.replication.specs.Machine.Rules.{Rule, rule_for}
use Rattle.replication.specs.Machine.White.{met_log}
use Rattle.step.specs.Stages.{unraised, is_taken}

unfoldable pub met_by : Option Rule → Server → Server
met_by none s = s
met_by (some k) s = with_log (met_log k s) s

unfoldable pub met_in : Server → Record → Server
met_in s r = pick (is_taken (unraised s r)) (met_by (rule_for s.membership.mode r) s) s

unfoldable pub met_on : Server → Reading Record → Server
met_on s (says r) = met_in s r
met_on s (Reading.refused k) = s

unfoldable pub met : Server → (event : List ℕ) → Server
met s e = met_on s (read (context_of s) e)

-- "Un: action does Install": its part of the log.
abbrev pub installed_first : Server → Server
installed_first s = with_log (install_log s.votes.yellow.ids s.log) s

-- Whether the record r, in Un, meets the log after Install.
abbrev pub Meets : Bool → Server → Record → Type 0
Meets t s r = met_in s r ≡ pick t (installed_first s) s
