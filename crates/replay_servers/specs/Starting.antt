-- The table at the start.
use Rattle.std.specs.Prelude.{ℕ, List, [], ◌∷◌}
use Rattle.base.specs.Bytes.{zeros}
use Rattle.image.specs.Outcome.{start_on}
use Rattle.replay_servers.specs.declared.Server.{Server}
use Rattle.replay_servers.specs.Core.{state_room}

-- The same bytes in memory and stored.
unfoldable pub alike : List ℕ → Server
alike b = record { state = b; store = b }

unfoldable pub fresh_of : (servers quota me : ℕ) → Server
fresh_of n q k = alike (start_on n q k (zeros state_room)).state

unfoldable pub fresh_table : (servers quota : ℕ) → List Server
fresh_table n q = fresh_of n q 0 ∷ fresh_of n q 1 ∷ fresh_of n q 2 ∷ fresh_of n q 3 ∷ []
