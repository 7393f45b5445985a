-- Document 01, 'Allowed runs': a run of all servers, and what stands at each of its places.
use Rattle.std.specs.Prelude.{ℕ, Bool, true, false, List, [], ◌∷◌, take}
use Rattle.std.proofs.Math.Option.{Option, none, some}
use Rattle.base.specs.Tests.{◌=?◌, pick}
use Rattle.base.specs.Lists.{at, upd}
use Rattle.format.specs.Types.{Record, action, retransmission, state, cpc, regular, transitional, request, recovery, Reading, says, refused}
use Rattle.format.specs.Read.{read}
use Rattle.replication.specs.Machine.Types.{Configuration, Outcome, taken, start, set_of}
use Rattle.replication.specs.Images.{Images, started, arrive, left_by, saved_in}

-- "A run is a list of crashes and events (kinds 1 to 8, each at one server)". An event comes with how many of its records were sent; where that
-- is not all of them, a crash of that server follows, and the moment between the two is a moment of the run. An event that ends in 7, or is cut
-- before its store is whole, has not come: it is no entry. Beyond document 01 a server may store between two events what its last one left: a daemon
-- that stores more often than the store word says.
pub data Entry : Type 0 where
  event : (server : ℕ) (bytes : List ℕ) (sent : ℕ) → Entry
  crash : (server : ℕ) → Entry
  store : (server : ℕ) → Entry

abbrev pub Run : Type 0
Run = List Entry

unfoldable pub server_of : Entry → ℕ
server_of (event i e k) = i
server_of (crash i) = i
server_of (store i) = i

-- ---- the states: "Each event but recovery gets the state its server's last one left; nobody else writes state or store." A refused event leaves
-- everything as it was: a server that is down stays down.

-- What every server has, and which are down.
pub record World : Type 0 where
  pub images : ℕ → Images
  pub down : ℕ → Bool

-- "All servers begin at the start, with one n and one q, each under its own number"
unfoldable pub beginning : (n q : ℕ) → World
beginning n q = record { images = λ i. started (start n q i); down = λ i. false }

unfoldable pub down_after : Outcome (List ℕ) → Bool → Bool
down_after (Outcome.refused k) d = d
down_after (taken t r b g) d = false

unfoldable pub world_after : World → Entry → World
world_after w (event i e k) = record {
  images = upd w.images i (left_by (arrive (w.images i) e) (w.images i));
  down = upd w.down i (down_after (arrive (w.images i) e) (w.down i));
}
world_after w (crash i) = record { images = w.images; down = upd w.down i true }
world_after w (store i) = record { images = upd w.images i (saved_in (w.images i)); down = w.down }

unfoldable pub world_through : World → Run → World
world_through w [] = w
world_through w (x ∷ l) = world_through (world_after w x) l

-- ---- the configurations, by the run alone

-- The last regular configuration that came to a server since start, crash or recovery, and the set of the transitional one after it.
pub record Place : Type 0 where
  pub regular : Option Configuration
  pub transitional : Option ℕ

unfoldable pub nowhere : Place
nowhere = record { regular = none; transitional = none }

-- What an event says at a server with this place.
unfoldable pub heard : (n q i : ℕ) → Place → List ℕ → Reading Record
heard n q i c e = read (record { servers = n; quota = q; self = i; last = set_of c.regular }) e

-- A configuration that does not read changes nothing; a recovery ends the configuration, with or without a crash before it.
unfoldable pub moved : Reading Record → Place → Place
moved (says (action a)) c = c
moved (says (retransmission k p a)) c = c
moved (says (state x)) c = c
moved (says (cpc k i)) c = c
moved (says (regular i s)) c = record { regular = some (record { id = i; set = s }); transitional = none }
moved (says (transitional s)) c = record { regular = c.regular; transitional = some s }
moved (says (request p)) c = c
moved (says recovery) c = nowhere
moved (refused k) c = c

unfoldable pub place_after : (n q i : ℕ) → Place → Entry → Place
place_after n q i c (event j e k) = pick (j =? i) (moved (heard n q i c e) c) c
place_after n q i c (crash j) = pick (j =? i) nowhere c
place_after n q i c (store j) = c

unfoldable pub place_through : (n q i : ℕ) → Place → Run → Place
place_through n q i c [] = c
place_through n q i c (x ∷ l) = place_through n q i (place_after n q i c x) l

-- The members of a server's configuration: of the transitional one, if it has come.
unfoldable pub members_in : Option Configuration → Option ℕ → ℕ
members_in none none = 0
members_in (some c) none = c.set
members_in none (some t) = t
members_in (some c) (some t) = t

unfoldable pub members : Place → ℕ
members c = members_in c.regular c.transitional

-- ---- what stands at a place of a run: before the entry p, and by it

unfoldable pub records_of : Outcome (List ℕ) → List (List ℕ)
records_of (Outcome.refused k) = []
records_of (taken t r b g) = r

module _ (n q : ℕ) (l : Run) where
  unfoldable pub world_at : ℕ → World
  world_at p = world_through (beginning n q) (take p l)

  unfoldable pub place_at : ℕ → ℕ → Place
  place_at i p = place_through n q i nowhere (take p l)

  -- What the event at p says at its server i.
  unfoldable pub heard_at : ℕ → ℕ → List ℕ → Reading Record
  heard_at p i e = heard n q i (place_at i p) e

  -- The records that the entry at p puts out, as bytes.
  unfoldable pub put_out_by : ℕ → Option Entry → List (List ℕ)
  put_out_by p none = []
  put_out_by p (some (crash i)) = []
  put_out_by p (some (store i)) = []
  put_out_by p (some (event i e k)) = records_of (arrive ((world_at p).images i) e)

  unfoldable pub put_out : ℕ → List (List ℕ)
  put_out p = put_out_by p (at l p)

  -- Those of them that are sent: "none or only the first few" where a crash follows.
  unfoldable pub sent_by : ℕ → Option Entry → List (List ℕ)
  sent_by p none = []
  sent_by p (some (crash i)) = []
  sent_by p (some (store i)) = []
  sent_by p (some (event i e k)) = take k (put_out p)

  unfoldable pub sent_at : ℕ → List (List ℕ)
  sent_at p = sent_by p (at l p)
