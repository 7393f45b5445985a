-- Document 01, 'Returned numbers', row 8: the clauses on the eight states, as facts.
use Rattle.std.specs.Prelude.{ℕ, ◌<◌, ◌≡◌, true, get_or}
use Rattle.std.proofs.Math.Option.{none, some}
use Rattle.base.specs.Lists.{is_there}
use Rattle.base.specs.Sets.{in_set}
use Rattle.format.specs.Limits.{most_index_limit}
use Rattle.replication.specs.Machine.Types.{Mode, Non_prim, Reg_prim, Trans_prim, Exchange_states, Exchange_actions, Construct, No, Un}
use Rattle.replication.specs.Machine.Types.{Configuration, Server}
use Rattle.replication.specs.Machine.Step.{here_set, planned_now}

-- The server has a regular configuration.
abbrev pub Configured : Server → Type 0
Configured s = (d : Configuration) × (s.membership.configuration ≡ some d)

-- Every member's State is in.
abbrev pub StatesIn : Server → Type 0
StatesIn s = (k : ℕ) → k < s.servers → in_set k (here_set s) ≡ true → is_there (get_or s.membership.states k none) ≡ true

abbrev pub ModeFits : Mode → Server → Type 0
ModeFits Non_prim s = Unit {0}
ModeFits Reg_prim s = Configured s
ModeFits Trans_prim s = Configured s
ModeFits Exchange_states s = Configured s
ModeFits Exchange_actions s = Configured s × StatesIn s × (s.membership.come < planned_now s)
ModeFits Construct s = Configured s × (s.votes.last.index < most_index_limit)
ModeFits No s = Configured s × (s.votes.last.index < most_index_limit)
ModeFits Un s = Configured s × (s.votes.last.index < most_index_limit)
