-- What an event at the server k makes of a table, and the reply.
use Rattle.std.specs.Prelude.{ℕ, Bool, true, false, List, [], ltb, length, get_or, set}
use Rattle.replay_servers.specs.declared.Server.{Server}
use Rattle.replay_servers.specs.declared.Reply.{Reply}
use Rattle.replay_servers.specs.Core.{core_of}

abbrev pub none : Server
none = record { state = []; store = [] }

-- The table with the entry k altered. Past the end nothing is set.
unfoldable pub altered : List Server → ℕ → List ℕ → List Server
altered t k e = set t k (core_of (get_or t k none) e).server

abbrev pub choose : Bool → Reply → Reply → Reply
choose true a b = a
choose false a b = b

-- The entry's reply, and 2 where there is no such entry.
unfoldable pub replied : List Server → ℕ → List ℕ → Reply
replied t k e = choose (ltb k (length t)) (core_of (get_or t k none) e).reply (record { number = 2; sent = 0 })
