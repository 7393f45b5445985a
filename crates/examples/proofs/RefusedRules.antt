-- Runs that are refused, one for each of document 01's own sentences, and the tests that they fail.
use mathlib.Core.Path.{refl}
use mathlib.Core.List.{[], ◌∷◌}
use Rattle.format.specs.Types.{action, state, regular, transitional, request, recovery}
use Rattle.format.specs.Write.{write}
use Rattle.replication.specs.Runs.Run.{event, crash, store, Run}
use Rattle.replication.specs.Audit.Witness.{Witness}
use Rattle.examples.proofs.Records.{made, primary, unmarked, no_yellow_lem, told}
use Rattle.examples.proofs.Shown.{Refused, opened}

-- Nine servers.
sizes_refused : Refused 9 1 [] (record { sources = []; names = []; ords = []; sending_ords = [] }) ("sizes" ∷ [])
unfolding opened
sizes_refused = (refl, refl)

-- A third server of two.
servers_refused : Refused 2 1 (crash 2 ∷ []) (record { sources = []; names = []; ords = []; sending_ords = [] }) ("servers" ∷ [])
unfolding opened
servers_refused = (refl, refl)

-- "no two regular configurations share an id": two do.
abbrev one_set_run : Run
one_set_run =
    event 0 (write (regular 1 1)) 1
    ∷ event 1 (write (regular 1 2)) 1
    ∷ []

abbrev one_set_witness : Witness
one_set_witness = record {
  sources = [];
  names = [];
  ords = 0 ∷ 2 ∷ [];
  sending_ords = (1 ∷ []) ∷ (3 ∷ []) ∷ [];
}

one_set_refused : Refused 2 2 one_set_run one_set_witness ("one-set" ∷ [])
unfolding opened
one_set_refused = (refl, refl)

-- "none of them comes to one server twice": one does. Its deliveries would be one moment, before and after each other.
abbrev once_run : Run
once_run =
    event 0 (write (regular 1 1)) 1
    ∷ crash 0
    ∷ event 0 (write recovery) 0
    ∷ event 0 (write (regular 1 1)) 1
    ∷ []

abbrev once_witness : Witness
once_witness = record {
  sources = [];
  names = [];
  ords = 0 ∷ 2 ∷ 3 ∷ 0 ∷ [];
  sending_ords = (1 ∷ []) ∷ [] ∷ [] ∷ (4 ∷ []) ∷ [];
}

once_refused : Refused 2 2 once_run once_witness ("once" ∷ "rises" ∷ [])
unfolding opened
once_refused = (refl, refl)

-- "between two of them at a server lies a transitional one or a recovery": nothing does.
abbrev between_run : Run
between_run =
    event 1 (write (regular 1 2)) 1
    ∷ event 1 (write (state (told 1 1 (0 ∷ 0 ∷ []) 0 0 (primary 0 0 3) unmarked no_yellow_lem))) 0
    ∷ event 1 (write (regular 2 2)) 0
    ∷ []

abbrev between_witness : Witness
between_witness = record {
  sources = [];
  names = [];
  ords = 0 ∷ 2 ∷ 3 ∷ [];
  sending_ords = (1 ∷ []) ∷ [] ∷ [] ∷ [];
}

between_refused : Refused 2 2 between_run between_witness ("between" ∷ [])
unfolding opened
between_refused = (refl, refl)

-- "a second transitional cannot come": it does.
abbrev one_transitional_run : Run
one_transitional_run =
    event 0 (write (regular 1 1)) 1
    ∷ event 0 (write (transitional 1)) 0
    ∷ event 0 (write (transitional 1)) 0
    ∷ []

abbrev one_transitional_witness : Witness
one_transitional_witness = record {
  sources = [];
  names = 0 ∷ 1 ∷ 2 ∷ [];
  ords = 0 ∷ 2 ∷ 3 ∷ [];
  sending_ords = (1 ∷ []) ∷ [] ∷ [] ∷ [];
}

one_transitional_refused : Refused 2 2 one_transitional_run one_transitional_witness ("one-transitional" ∷ [])
unfolding opened
one_transitional_refused = (refl, refl)

-- "every record delivered was written by a server's engine and sent by that server": nobody sent this action.
abbrev genuine_run : Run
genuine_run =
    event 0 (write (regular 1 3)) 1
    ∷ event 0 (write (action (made 1 1 0 (65 ∷ [])))) 0
    ∷ []

abbrev genuine_witness : Witness
genuine_witness = record {
  sources = [];
  names = [];
  ords = 0 ∷ 2 ∷ [];
  sending_ords = (1 ∷ []) ∷ [] ∷ [];
}

genuine_refused : Refused 2 2 genuine_run genuine_witness ("genuine" ∷ [])
unfolding opened
genuine_refused = (refl, refl)

-- "none or only the first few of its records sent": the State is not sent, and yet no crash follows.
abbrev cut_by_crash_run : Run
cut_by_crash_run =
    event 0 (write (regular 1 1)) 0
    ∷ event 0 (write (transitional 1)) 0
    ∷ []

abbrev cut_by_crash_witness : Witness
cut_by_crash_witness = record {
  sources = [];
  names = [];
  ords = 0 ∷ 1 ∷ [];
  sending_ords = [];
}

cut_by_crash_refused : Refused 2 2 cut_by_crash_run cut_by_crash_witness ("cut-by-crash" ∷ [])
unfolding opened
cut_by_crash_refused = (refl, refl)

-- "that server's next event is then recovery": it is not.
abbrev recovers_run : Run
recovers_run =
    crash 0
    ∷ event 0 (write (regular 1 1)) 1
    ∷ []

abbrev recovers_witness : Witness
recovers_witness = record {
  sources = [];
  names = [];
  ords = 0 ∷ 1 ∷ [];
  sending_ords = [] ∷ (2 ∷ []) ∷ [];
}

recovers_refused : Refused 2 2 recovers_run recovers_witness ("recovers" ∷ [])
unfolding opened
recovers_refused = (refl, refl)

-- A store comes to a server that is up: this one is down.
abbrev stores_up_run : Run
stores_up_run =
    crash 0
    ∷ store 0
    ∷ []

abbrev stores_up_witness : Witness
stores_up_witness = record {
  sources = [];
  names = [];
  ords = 0 ∷ 1 ∷ [];
  sending_ords = [];
}

stores_up_refused : Refused 2 2 stores_up_run stores_up_witness ("stores-up" ∷ [])
unfolding opened
stores_up_refused = (refl, refl)

-- A store between a cut event and the next one is no crash, and a request that sends nothing is none either.
abbrev stored_cut_run : Run
stored_cut_run =
    event 0 (write (regular 1 1)) 0
    ∷ store 0
    ∷ event 0 (write (request (65 ∷ []))) 0
    ∷ event 0 (write (transitional 1)) 0
    ∷ []

abbrev stored_cut_witness : Witness
stored_cut_witness = record {
  sources = [];
  names = [];
  ords = 0 ∷ 1 ∷ 2 ∷ 3 ∷ [];
  sending_ords = [];
}

stored_cut_refused : Refused 2 2 stored_cut_run stored_cut_witness ("cut-by-crash" ∷ [])
unfolding opened
stored_cut_refused = (refl, refl)

-- Behind a request whose record is not sent the next one's is.
abbrev sent_behind_cut_run : Run
sent_behind_cut_run =
    event 1 (write (regular 1 2)) 1
    ∷ event 1 (write (state (told 1 1 (0 ∷ 0 ∷ []) 0 0 (primary 0 0 3) unmarked no_yellow_lem))) 0
    ∷ event 1 (write (request (65 ∷ []))) 0
    ∷ event 1 (write (request (66 ∷ []))) 1
    ∷ []

abbrev sent_behind_cut_witness : Witness
sent_behind_cut_witness = record {
  sources = [];
  names = [];
  ords = 0 ∷ 2 ∷ 3 ∷ 4 ∷ [];
  sending_ords = (1 ∷ []) ∷ [] ∷ [] ∷ (5 ∷ []) ∷ [];
}

sent_behind_cut_refused : Refused 2 2 sent_behind_cut_run sent_behind_cut_witness ("cut-by-crash" ∷ [])
unfolding opened
sent_behind_cut_refused = (refl, refl)
