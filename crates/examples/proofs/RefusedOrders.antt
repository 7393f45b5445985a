-- Runs that are refused by Specifications 2 and 6, and the tests that they fail.
use mathlib.Core.Path.{refl}
use mathlib.Core.List.{[], ◌∷◌}
use Rattle.format.specs.Types.{state, regular, transitional}
use Rattle.format.specs.Write.{write}
use Rattle.replication.specs.Runs.Run.{event, Run}
use Rattle.replication.specs.Audit.Witness.{Witness}
use Rattle.examples.proofs.Records.{sent, primary, unmarked, no_yellow_lem, told}
use Rattle.examples.proofs.Shown.{Refused, opened}

-- 2.3, 2.4: two configurations come to two servers in opposite orders. With one ord for each configuration 6.1 fails.
abbrev rises_run : Run
rises_run =
    event 0 (write (regular 1 3)) 1
    ∷ event 0 (write (state (told 0 1 (0 ∷ 0 ∷ []) 0 0 (primary 0 0 3) unmarked no_yellow_lem))) 0
    ∷ event 0 (write (transitional 1)) 0
    ∷ event 0 (write (regular 2 3)) 1
    ∷ event 1 (write (regular 2 3)) 1
    ∷ event 1 (write (state (told 1 2 (0 ∷ 0 ∷ []) 0 0 (primary 0 0 3) unmarked no_yellow_lem))) 0
    ∷ event 1 (write (transitional 2)) 0
    ∷ event 1 (write (regular 1 3)) 1
    ∷ []

abbrev rises_witness : Witness
rises_witness = record {
  sources = sent 0 0 ∷ sent 0 0 ∷ sent 0 0 ∷ sent 0 0 ∷ sent 0 0 ∷ sent 4 0 ∷ sent 0 0 ∷ sent 0 0 ∷ [];
  names = 0 ∷ 0 ∷ 1 ∷ 0 ∷ 0 ∷ 0 ∷ 2 ∷ 0 ∷ [];
  ords = 0 ∷ 2 ∷ 3 ∷ 4 ∷ 4 ∷ 7 ∷ 8 ∷ 0 ∷ [];
  sending_ords = (1 ∷ []) ∷ [] ∷ [] ∷ (5 ∷ []) ∷ (6 ∷ []) ∷ [] ∷ [] ∷ (9 ∷ []) ∷ [];
}

rises_refused : Refused 2 2 rises_run rises_witness ("rises" ∷ [])
unfolding opened
rises_refused = (refl, refl)

-- The same run with ord by the list: 6.1 holds, and 6.2 fails.
abbrev same_moment_run : Run
same_moment_run =
    event 0 (write (regular 1 3)) 1
    ∷ event 0 (write (state (told 0 1 (0 ∷ 0 ∷ []) 0 0 (primary 0 0 3) unmarked no_yellow_lem))) 0
    ∷ event 0 (write (transitional 1)) 0
    ∷ event 0 (write (regular 2 3)) 1
    ∷ event 1 (write (regular 2 3)) 1
    ∷ event 1 (write (state (told 1 2 (0 ∷ 0 ∷ []) 0 0 (primary 0 0 3) unmarked no_yellow_lem))) 0
    ∷ event 1 (write (transitional 2)) 0
    ∷ event 1 (write (regular 1 3)) 1
    ∷ []

abbrev same_moment_witness : Witness
same_moment_witness = record {
  sources = sent 0 0 ∷ sent 0 0 ∷ sent 0 0 ∷ sent 0 0 ∷ sent 0 0 ∷ sent 4 0 ∷ sent 0 0 ∷ sent 0 0 ∷ [];
  names = 0 ∷ 0 ∷ 1 ∷ 0 ∷ 0 ∷ 0 ∷ 2 ∷ 0 ∷ [];
  ords = 0 ∷ 2 ∷ 3 ∷ 4 ∷ 6 ∷ 8 ∷ 9 ∷ 10 ∷ [];
  sending_ords = (1 ∷ []) ∷ [] ∷ [] ∷ (5 ∷ []) ∷ (7 ∷ []) ∷ [] ∷ [] ∷ (11 ∷ []) ∷ [];
}

same_moment_refused : Refused 2 2 same_moment_run same_moment_witness ("same-moment" ∷ [])
unfolding opened
same_moment_refused = (refl, refl)

-- 6.2: two messages come to two servers in opposite orders.
abbrev same_message_run : Run
same_message_run =
    event 0 (write (regular 1 3)) 1
    ∷ event 1 (write (regular 1 3)) 1
    ∷ event 0 (write (transitional 1)) 0
    ∷ event 1 (write (transitional 2)) 0
    ∷ event 0 (write (state (told 0 1 (0 ∷ 0 ∷ []) 0 0 (primary 0 0 3) unmarked no_yellow_lem))) 0
    ∷ event 1 (write (state (told 1 1 (0 ∷ 0 ∷ []) 0 0 (primary 0 0 3) unmarked no_yellow_lem))) 0
    ∷ event 0 (write (state (told 1 1 (0 ∷ 0 ∷ []) 0 0 (primary 0 0 3) unmarked no_yellow_lem))) 0
    ∷ event 1 (write (state (told 0 1 (0 ∷ 0 ∷ []) 0 0 (primary 0 0 3) unmarked no_yellow_lem))) 0
    ∷ []

abbrev same_message_witness : Witness
same_message_witness = record {
  sources = sent 0 0 ∷ sent 0 0 ∷ sent 0 0 ∷ sent 0 0 ∷ sent 0 0 ∷ sent 1 0 ∷ sent 1 0 ∷ sent 0 0 ∷ [];
  names = 0 ∷ 0 ∷ 1 ∷ 2 ∷ 0 ∷ 0 ∷ 0 ∷ 0 ∷ [];
  ords = 0 ∷ 0 ∷ 4 ∷ 5 ∷ 6 ∷ 7 ∷ 8 ∷ 9 ∷ [];
  sending_ords = (1 ∷ []) ∷ (3 ∷ []) ∷ [] ∷ [] ∷ [] ∷ [] ∷ [] ∷ [] ∷ [];
}

same_message_refused : Refused 2 2 same_message_run same_message_witness ("same-message" ∷ [])
unfolding opened
same_message_refused = (refl, refl)

-- Two messages of one configuration at one moment, each delivered by one server.
abbrev one_order_run : Run
one_order_run =
    event 0 (write (regular 1 3)) 1
    ∷ event 1 (write (regular 1 3)) 1
    ∷ event 0 (write (state (told 0 1 (0 ∷ 0 ∷ []) 0 0 (primary 0 0 3) unmarked no_yellow_lem))) 0
    ∷ event 1 (write (state (told 1 1 (0 ∷ 0 ∷ []) 0 0 (primary 0 0 3) unmarked no_yellow_lem))) 0
    ∷ []

abbrev one_order_witness : Witness
one_order_witness = record {
  sources = sent 0 0 ∷ sent 0 0 ∷ sent 0 0 ∷ sent 1 0 ∷ [];
  names = [];
  ords = 0 ∷ 0 ∷ 4 ∷ 4 ∷ [];
  sending_ords = (1 ∷ []) ∷ (2 ∷ []) ∷ [] ∷ [] ∷ [];
}

one_order_refused : Refused 2 2 one_order_run one_order_witness ("one-order" ∷ [])
unfolding opened
one_order_refused = (refl, refl)

-- 6.3, at every moment: server 1 passes over a message that is lower in the order.
abbrev agreed_run : Run
agreed_run =
    event 0 (write (regular 1 3)) 1
    ∷ event 1 (write (regular 1 3)) 1
    ∷ event 0 (write (state (told 0 1 (0 ∷ 0 ∷ []) 0 0 (primary 0 0 3) unmarked no_yellow_lem))) 0
    ∷ event 0 (write (state (told 1 1 (0 ∷ 0 ∷ []) 0 0 (primary 0 0 3) unmarked no_yellow_lem))) 1
    ∷ event 1 (write (state (told 1 1 (0 ∷ 0 ∷ []) 0 0 (primary 0 0 3) unmarked no_yellow_lem))) 0
    ∷ []

abbrev agreed_witness : Witness
agreed_witness = record {
  sources = sent 0 0 ∷ sent 0 0 ∷ sent 0 0 ∷ sent 1 0 ∷ sent 1 0 ∷ [];
  names = [];
  ords = 0 ∷ 0 ∷ 3 ∷ 4 ∷ 4 ∷ [];
  sending_ords = (1 ∷ []) ∷ (2 ∷ []) ∷ [] ∷ (5 ∷ []) ∷ [] ∷ [];
}

agreed_refused : Refused 2 2 agreed_run agreed_witness ("agreed" ∷ [])
unfolding opened
agreed_refused = (refl, refl)
