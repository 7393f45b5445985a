-- A run as a table, made in one walk: for each place what stands there and what its server has there.
use Rattle.std.specs.Prelude.{ℕ, suc, Bool, false, List, [], ◌∷◌, length, take}
use Rattle.base.specs.Tests.{◌<?◌}
use Rattle.base.specs.Lists.{upd}
use Rattle.format.specs.Types.{Record, action, retransmission, state, cpc, regular, transitional, request, recovery, Reading, says, refused}
use Rattle.replication.specs.Machine.Types.{Configuration}
use Rattle.replication.specs.Images.{arrive}
use Rattle.replication.specs.Runs.Run.{Entry, event, crash, store, Run, server_of, World, beginning, world_after, Place, nowhere, heard}
use Rattle.replication.specs.Runs.Run.{place_after, records_of}
use Rattle.replication.specs.Runs.Happenings.{Message}
use Rattle.replication.specs.Audit.Witness.{Witness, source_in, name_in, entry_ord, sending_ords_at}

-- What an entry is, in the thesis's terms: the delivery of a message, or of a configuration (regular; transitional, with its set), a crash, a
-- recovery, a store between events, a request, or none of these (bytes that do not read).
pub data Role : Type 0 where
  delivers : Role
  takes : Configuration → Role
  transits : (set : ℕ) → Role
  goes_down : Role
  comes_back : Role
  saves : Role
  asks : Role
  neither : Role

unfoldable pub role_in : Reading Record → Role
role_in (says (action a)) = delivers
role_in (says (retransmission k p a)) = delivers
role_in (says (state x)) = delivers
role_in (says (cpc k i)) = delivers
role_in (says (regular i s)) = takes (record { id = i; set = s })
role_in (says (transitional s)) = transits s
role_in (says (request p)) = asks
role_in (says recovery) = comes_back
role_in (refused k) = neither

-- What stands at a place, its server's configuration before and after, whether the server was down, whether some of the records put out
-- were not sent, those sent, and what the witness says of the place.
pub record Row : Type 0 where
  pub place : ℕ
  pub server : ℕ
  pub role : Role
  pub bytes : List ℕ
  pub before : Place
  pub after : Place
  pub down : Bool
  pub cut : Bool
  pub sent : List (List ℕ)
  pub source : Message
  pub name : ℕ
  pub ord : ℕ
  pub sending_ords : List ℕ

-- The row of an entry at p that brings no bytes and sends nothing.
abbrev pub bare_row : Witness → (p i : ℕ) → Role → World → (before after : Place) → Row
bare_row w p i o x c d = record {
  place = p;
  server = i;
  role = o;
  bytes = [];
  before = c;
  after = d;
  down = x.down i;
  cut = false;
  sent = [];
  source = source_in w p;
  name = name_in w p;
  ord = entry_ord w p;
  sending_ords = sending_ords_at w p;
}

-- The row of an entry at p, in the world there, its server being in c.
unfoldable pub row_of : (n q : ℕ) → Witness → (p : ℕ) → World → Place → Entry → Row
row_of n q w p x c (event i e k) = record {
  place = p;
  server = i;
  role = role_in (heard n q i c e);
  bytes = e;
  before = c;
  after = place_after n q i c (event i e k);
  down = x.down i;
  cut = k <? length (records_of (arrive (x.images i) e));
  sent = take k (records_of (arrive (x.images i) e));
  source = source_in w p;
  name = name_in w p;
  ord = entry_ord w p;
  sending_ords = sending_ords_at w p;
}
row_of n q w p x c (crash i) = bare_row w p i goes_down x c (place_after n q i c (crash i))
row_of n q w p x c (store i) = bare_row w p i saves x c (place_after n q i c (store i))

-- The rows from the place p on, from the world and the servers' configurations there.
unfoldable pub rows_from : (n q : ℕ) → Witness → (p : ℕ) → World → (ℕ → Place) → Run → List Row
rows_from n q w p x c [] = []
rows_from n q w p x c (y ∷ l) =
    row_of n q w p x (c (server_of y)) y
    ∷ rows_from n q w (suc p) (world_after x y) (upd c (server_of y) (place_after n q (server_of y) (c (server_of y)) y)) l

unfoldable pub table : (n q : ℕ) → Run → Witness → List Row
table n q l w = rows_from n q w 0 (beginning n q) (λ i. nowhere) l
