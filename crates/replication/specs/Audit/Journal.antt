-- What the table holds, sorted by kind: sendings, deliveries, configurations taken, left and passed through.
use Rattle.std.specs.Prelude.{ℕ, suc, Bool, true, false, List, [], ◌∷◌, map, length, drop, get_or}
use Rattle.std.proofs.Math.Option.{Option, none, some}
use Rattle.base.specs.Tests.{◌=?◌, pick}
use Rattle.base.specs.Lists.{filter, gather, gather_all, below, at}
use Rattle.base.specs.Quantifiers.{each_once, with_number}
use Rattle.replication.specs.Machine.Types.{Configuration}
use Rattle.replication.specs.Machine.Step.{the_id}
use Rattle.replication.specs.Runs.Run.{Place}
use Rattle.replication.specs.Runs.Happenings.{Message, Configured, regularly, transitionally}
use Rattle.replication.specs.Audit.Table.{Role, delivers, takes, transits, goes_down, comes_back, saves, asks, neither, Row}
use Rattle.replication.specs.Audit.Clocks.{Stamps, number_of, clock_at, stamps}

-- ---- messages

-- A message's sending: its server, its regular configuration, its ord, its bytes, its number in the run and what is known then.
pub record Sending : Type 0 where
  pub message : Message
  pub server : ℕ
  pub regular : Option Configuration
  pub ord : ℕ
  pub bytes : Option (List ℕ)
  pub number : ℕ
  pub clock : List ℕ

unfoldable pub sending_in : Stamps → Message → Option Row → Sending
sending_in s m none = record { message = m; server = 0; regular = none; ord = 0; bytes = none; number = 0; clock = [] }
sending_in s m (some r) = record {
  message = m;
  server = r.server;
  regular = r.after.regular;
  ord = get_or r.sending_ords m.number 0;
  bytes = at r.sent m.number;
  number = number_of s m;
  clock = clock_at s m;
}

-- The sendings of a row's records.
unfoldable pub sendings_of : Stamps → Row → List Sending
sendings_of s r = map (λ k. sending_in s (record { sending = r.place; number = k }) (some r)) (below (length r.sent))

pub record Delivery : Type 0 where
  pub place : ℕ
  pub server : ℕ
  pub before : Place
  pub ord : ℕ
  pub bytes : List ℕ
  pub sending : Sending

unfoldable pub delivery_of : List Row → Stamps → Row → Delivery
delivery_of rs s r = record {
  place = r.place;
  server = r.server;
  before = r.before;
  ord = r.ord;
  bytes = r.bytes;
  sending = sending_in s r.source (at rs r.source.sending);
}

unfoldable pub delivery_by : Role → List Row → Stamps → Row → Option Delivery
delivery_by delivers rs s r = some (delivery_of rs s r)
delivery_by (takes c) rs s r = none
delivery_by (transits t) rs s r = none
delivery_by goes_down rs s r = none
delivery_by comes_back rs s r = none
delivery_by saves rs s r = none
delivery_by asks rs s r = none
delivery_by neither rs s r = none

-- ---- configurations

pub record Taking : Type 0 where
  pub place : ℕ
  pub server : ℕ
  pub before : Place
  pub configuration : Configuration

unfoldable pub taking_by : Role → Row → Option Taking
taking_by delivers r = none
taking_by (takes c) r = some (record { place = r.place; server = r.server; before = r.before; configuration = c })
taking_by (transits t) r = none
taking_by goes_down r = none
taking_by comes_back r = none
taking_by saves r = none
taking_by asks r = none
taking_by neither r = none

-- A transitional configuration that comes.
pub record Transition : Type 0 where
  pub place : ℕ
  pub server : ℕ
  pub before : Place
  pub set : ℕ
  pub name : ℕ

unfoldable pub transition_by : Role → Row → Option Transition
transition_by delivers r = none
transition_by (takes c) r = none
transition_by (transits t) r = some (record { place = r.place; server = r.server; before = r.before; set = t; name = r.name })
transition_by goes_down r = none
transition_by comes_back r = none
transition_by saves r = none
transition_by asks r = none
transition_by neither r = none

-- A configuration that comes, regular or transitional.
pub record Change : Type 0 where
  pub place : ℕ
  pub server : ℕ
  pub ord : ℕ
  pub to : Configured

unfoldable pub change_by : Role → Row → Option Change
change_by delivers r = none
change_by (takes c) r = some (record { place = r.place; server = r.server; ord = r.ord; to = regularly c })
change_by (transits t) r = some (record { place = r.place; server = r.server; ord = r.ord; to = transitionally r.name })
change_by goes_down r = none
change_by comes_back r = none
change_by saves r = none
change_by asks r = none
change_by neither r = none

-- ---- what comes later at the same server

-- In these rows the server i takes a regular configuration, and does not go down or recover before.
unfoldable pub settles_by : Role → Bool → Bool
settles_by delivers later = later
settles_by (takes c) later = true
settles_by (transits t) later = later
settles_by goes_down later = false
settles_by comes_back later = false
settles_by saves later = later
settles_by asks later = later
settles_by neither later = later

unfoldable pub settles : ℕ → List Row → Bool
settles i [] = false
settles i (r ∷ rs) = pick (r.server =? i) (settles_by r.role (settles i rs)) (settles i rs)

-- The next configuration of the server i in these rows, if it does not go down or recover before.
unfoldable pub next_by : Role → Row → Option Change → Option Change
next_by delivers r later = later
next_by (takes c) r later = change_by (takes c) r
next_by (transits t) r later = change_by (transits t) r
next_by goes_down r later = none
next_by comes_back r later = none
next_by saves r later = later
next_by asks r later = later
next_by neither r later = later

unfoldable pub next_change : ℕ → List Row → Option Change
next_change i [] = none
next_change i (r ∷ rs) = pick (r.server =? i) (next_by r.role r (next_change i rs)) (next_change i rs)

-- In these rows the server i's next event or crash, if any, is a crash; requests are passed over that send nothing.
unfoldable pub crashes_by : Role → (sent : List (List ℕ)) → Bool → Bool
crashes_by delivers s later = false
crashes_by (takes c) s later = false
crashes_by (transits t) s later = false
crashes_by goes_down s later = true
crashes_by comes_back s later = false
crashes_by saves s later = later
crashes_by asks [] later = later
crashes_by asks (x ∷ s) later = false
crashes_by neither s later = false

unfoldable pub crashes_next : ℕ → List Row → Bool
crashes_next i [] = true
crashes_next i (r ∷ rs) = pick (r.server =? i) (crashes_by r.role r.sent (crashes_next i rs)) (crashes_next i rs)

unfoldable pub has_left : List Row → Taking → Bool
has_left rs t = settles t.server (drop (suc t.place) rs)

-- A server's way from one configuration to the next.
pub record Passage : Type 0 where
  pub from : Change
  pub to : Change

unfoldable pub passage_to : Change → Option Change → Option Passage
passage_to a none = none
passage_to a (some b) = some (record { from = a; to = b })

unfoldable pub passage_from : List Row → Change → Option Passage
passage_from rs a = passage_to a (next_change a.server (drop (suc a.place) rs))

-- ---- the journal

-- What concerns the regular configurations with one id: what was sent in them, what was delivered in them and after them, and which servers have
-- left them.
pub record PerConfiguration : Type 0 where
  pub sendings : List Sending
  pub deliveries : List Delivery
  pub leavings : List Taking

unfoldable pub per_configuration : List Sending → List Delivery → List Taking → ℕ → PerConfiguration
per_configuration ss ds ts k = record {
  sendings = with_number (λ s. the_id s.regular) k ss;
  deliveries = with_number (λ d. the_id d.before.regular) k ds;
  leavings = with_number (λ t. t.configuration.id) k ts;
}

unfoldable pub configurations_of : List Sending → List Delivery → List Taking → List PerConfiguration
configurations_of ss ds ts = map (per_configuration ss ds ts) (each_once (map (λ s. the_id s.regular) ss))

pub record Journal : Type 0 where
  pub rows : List Row
  pub deliveries : List Delivery
  pub takings : List Taking
  pub transitions : List Transition
  pub changes : List Change
  pub passages : List Passage
  pub configurations : List PerConfiguration

unfoldable pub sendings_in : List Row → Stamps → List Sending
sendings_in rs s = gather_all (sendings_of s) rs

unfoldable pub deliveries_in : List Row → Stamps → List Delivery
deliveries_in rs s = gather (λ r. delivery_by r.role rs s r) rs

unfoldable pub takings_in : List Row → List Taking
takings_in rs = gather (λ r. taking_by r.role r) rs

-- The takings of configurations that their servers have left.
unfoldable pub leavings_in : List Row → List Taking
leavings_in rs = filter (has_left rs) (takings_in rs)

unfoldable pub transitions_in : List Row → List Transition
transitions_in rs = gather (λ r. transition_by r.role r) rs

unfoldable pub changes_in : List Row → List Change
changes_in rs = gather (λ r. change_by r.role r) rs

unfoldable pub passages_in : List Row → List Passage
passages_in rs = gather (passage_from rs) (changes_in rs)

unfoldable pub sorted : List Row → Stamps → Journal
sorted rs s = record {
  rows = rs;
  deliveries = deliveries_in rs s;
  takings = takings_in rs;
  transitions = transitions_in rs;
  changes = changes_in rs;
  passages = passages_in rs;
  configurations = configurations_of (sendings_in rs s) (deliveries_in rs s) (leavings_in rs);
}

unfoldable pub journal_of : List Row → Journal
journal_of rs = sorted rs (stamps rs)
