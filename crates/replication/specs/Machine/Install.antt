-- Document 01, 'Install'.
use Rattle.std.specs.Prelude.{ℕ, ◌+◌, List, [], ◌∷◌, ◌++◌, map}
use Rattle.base.specs.Lists.{above}
use Rattle.format.specs.Types.{Id, component}
use Rattle.replication.specs.Machine.Types.{Log, Votes, Server, with_log, with_votes, no_yellow}
use Rattle.replication.specs.Machine.Colours.{green_ids}

-- The ids up to the cuts, by creator from c on, then index.
unfoldable pub ids_up_to : ℕ → List ℕ → List Id
ids_up_to c [] = []
ids_up_to c (k ∷ cuts) = map (λ i. record { creator = c; index = i }) (above 0 k) ++ ids_up_to (c + 1) cuts

-- "yellow list green in order, ids not held passed over" .. "all other reds green by creator, then index"
unfoldable pub install_log : List Id → Log → Log
install_log yellows l = green_ids (ids_up_to 0 l.cuts) (green_ids yellows l)

-- "then yellow empty and invalid; primary index + 1, its attempt the current one, its set the mark's; attempt 0"
unfoldable pub install_votes : Votes → Votes
install_votes v = record {
  last = component (v.last.index + 1) v.attempt v.mark.set;
  attempt = 0;
  mark = v.mark;
  yellow = no_yellow;
}

unfoldable pub install : Server → Server
install s = with_votes (install_votes s.votes) (with_log (install_log s.votes.yellow.ids s.log) s)
