-- Greening and yellowing as one fold over the delivered actions: each is entered if it is its creator's next.
use Rattle.std.specs.Prelude.{ℕ, ◌+◌, ◌≡◌, Bool, List, [], ◌∷◌, ◌++◌, map, get_or, set}
use Rattle.base.specs.Tests.{◌=?◌, pick}
use Rattle.format.specs.Types.{Id, Action}
use Rattle.replication.specs.Machine.Types.{Log, Server}
use Rattle.replication.specs.Machine.Colours.{add_id}

-- "an action is entered only if its index is its creator's cut plus one"
unfoldable pub follows : List ℕ → Action → Bool
follows cuts a = a.id.index =? get_or cuts a.id.creator 0 + 1

-- The cuts after one more action.
unfoldable pub cuts_with : Action → List ℕ → List ℕ
cuts_with a cuts = pick (follows cuts a) (set cuts a.id.creator a.id.index) cuts

-- The cuts after these actions.
unfoldable pub cuts_after : List ℕ → List Action → List ℕ
cuts_after cuts [] = cuts
cuts_after cuts (a ∷ more) = cuts_after (cuts_with a cuts) more

-- Of these actions, delivered one after another, those that are entered.
unfoldable pub entered : List ℕ → List Action → List Action
entered cuts [] = []
entered cuts (a ∷ more) = pick (follows cuts a) (a ∷ entered (cuts_with a cuts) more) (entered (cuts_with a cuts) more)

-- A yellow list that these ids have joined, one after another.
unfoldable pub add_ids : List Id → List Id → List Id
add_ids [] ids = ids
add_ids (d ∷ ds) ids = add_ids ds (add_id d ids)

-- The log m is the log l, which had no red action, with these delivered and greened.
pub record Greened (delivered : List Action) (l m : Log) : Type 0 where
  pub green : m.green ≡ l.green ++ entered l.cuts delivered
  pub red : m.red ≡ []
  pub cuts : m.cuts ≡ cuts_after l.cuts delivered

-- The server t is the server s with these delivered and yellowed.
pub record Yellowed (delivered : List Action) (s t : Server) : Type 0 where
  pub ids : t.votes.yellow.ids ≡ add_ids (map (λ a. a.id) (entered s.log.cuts delivered)) s.votes.yellow.ids
  pub status : t.votes.yellow.status ≡ s.votes.yellow.status
  pub green : t.log.green ≡ s.log.green
  pub red : t.log.red ≡ s.log.red ++ entered s.log.cuts delivered
  pub cuts : t.log.cuts ≡ cuts_after s.log.cuts delivered
