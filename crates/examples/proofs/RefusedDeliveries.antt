-- Runs that are refused by Specifications 1 to 5 and 7, and the tests that they fail.
use mathlib.Core.Path.{refl}
use mathlib.Core.List.{[], ◌∷◌}
use Rattle.format.specs.Types.{action, state, regular, transitional, request}
use Rattle.format.specs.Write.{write}
use Rattle.replication.specs.Runs.Run.{event, Run}
use Rattle.replication.specs.Audit.Witness.{Witness}
use Rattle.examples.proofs.Records.{sent, made, primary, unmarked, no_yellow_lem, told}
use Rattle.examples.proofs.Shown.{Refused, opened}

-- 1.3: server 1 delivers in its configuration what 0 sent in another.
abbrev same_configuration_run : Run
same_configuration_run =
    event 0 (write (regular 1 3)) 1
    ∷ event 1 (write (regular 2 2)) 1
    ∷ event 1 (write (state (told 0 1 (0 ∷ 0 ∷ []) 0 0 (primary 0 0 3) unmarked no_yellow_lem))) 0
    ∷ []

abbrev same_configuration_witness : Witness
same_configuration_witness = record {
  sources = [];
  names = [];
  ords = 0 ∷ 2 ∷ 4 ∷ [];
  sending_ords = (1 ∷ []) ∷ (3 ∷ []) ∷ [] ∷ [];
}

same_configuration_refused : Refused 2 2 same_configuration_run same_configuration_witness ("same-configuration" ∷ [])
unfolding opened
same_configuration_refused = (refl, refl)

-- 1.4: a State is delivered in the regular configuration and again in the transitional one.
abbrev one_delivery_run : Run
one_delivery_run =
    event 1 (write (regular 1 2)) 1
    ∷ event 1 (write (state (told 1 1 (0 ∷ 0 ∷ []) 0 0 (primary 0 0 3) unmarked no_yellow_lem))) 0
    ∷ event 1 (write (transitional 2)) 0
    ∷ event 1 (write (state (told 1 1 (0 ∷ 0 ∷ []) 0 0 (primary 0 0 3) unmarked no_yellow_lem))) 0
    ∷ []

abbrev one_delivery_witness : Witness
one_delivery_witness = record {
  sources = [];
  names = 0 ∷ 0 ∷ 1 ∷ 0 ∷ [];
  ords = 0 ∷ 2 ∷ 3 ∷ 4 ∷ [];
  sending_ords = (1 ∷ []) ∷ [] ∷ [] ∷ [] ∷ [];
}

one_delivery_refused : Refused 2 2 one_delivery_run one_delivery_witness ("one-delivery" ∷ "same-message" ∷ [])
unfolding opened
one_delivery_refused = (refl, refl)

-- One name for two transitional configurations.
abbrev one_name_run : Run
one_name_run =
    event 0 (write (regular 1 3)) 1
    ∷ event 1 (write (regular 1 3)) 1
    ∷ event 0 (write (transitional 1)) 0
    ∷ event 1 (write (transitional 3)) 0
    ∷ []

abbrev one_name_witness : Witness
one_name_witness = record {
  sources = [];
  names = 0 ∷ 0 ∷ 1 ∷ 1 ∷ [];
  ords = 0 ∷ 0 ∷ 3 ∷ 3 ∷ [];
  sending_ords = (1 ∷ []) ∷ (2 ∷ []) ∷ [] ∷ [] ∷ [];
}

one_name_refused : Refused 2 2 one_name_run one_name_witness ("one-name" ∷ [])
unfolding opened
one_name_refused = (refl, refl)

-- 3: the server leaves without having delivered its own State.
abbrev self_delivery_run : Run
self_delivery_run =
    event 0 (write (regular 1 1)) 1
    ∷ event 0 (write (transitional 1)) 0
    ∷ event 0 (write (regular 2 1)) 1
    ∷ []

abbrev self_delivery_witness : Witness
self_delivery_witness = record {
  sources = [];
  names = 0 ∷ 1 ∷ 0 ∷ [];
  ords = 0 ∷ 2 ∷ 3 ∷ [];
  sending_ords = (1 ∷ []) ∷ [] ∷ (4 ∷ []) ∷ [];
}

self_delivery_refused : Refused 2 2 self_delivery_run self_delivery_witness ("self-delivery" ∷ [])
unfolding opened
self_delivery_refused = (refl, refl)

-- 4: two servers go from one configuration to the next together, and only one has delivered server 2's State there. (So 7.1 fails too.)
abbrev atomic_run : Run
atomic_run =
    event 2 (write (regular 1 12)) 1
    ∷ event 3 (write (regular 1 12)) 1
    ∷ event 2 (write (state (told 3 1 (0 ∷ 0 ∷ 0 ∷ 0 ∷ []) 0 0 (primary 0 0 15) unmarked no_yellow_lem))) 0
    ∷ event 3 (write (state (told 3 1 (0 ∷ 0 ∷ 0 ∷ 0 ∷ []) 0 0 (primary 0 0 15) unmarked no_yellow_lem))) 0
    ∷ event 2 (write (state (told 2 1 (0 ∷ 0 ∷ 0 ∷ 0 ∷ []) 0 0 (primary 0 0 15) unmarked no_yellow_lem))) 0
    ∷ event 2 (write (transitional 12)) 0
    ∷ event 3 (write (transitional 12)) 0
    ∷ event 2 (write (regular 2 12)) 1
    ∷ event 3 (write (regular 2 12)) 1
    ∷ []

abbrev atomic_witness : Witness
atomic_witness = record {
  sources = sent 0 0 ∷ sent 0 0 ∷ sent 1 0 ∷ sent 1 0 ∷ sent 0 0 ∷ sent 0 0 ∷ sent 0 0 ∷ sent 0 0 ∷ sent 0 0 ∷ [];
  names = 0 ∷ 0 ∷ 0 ∷ 0 ∷ 0 ∷ 1 ∷ 1 ∷ 0 ∷ 0 ∷ [];
  ords = 0 ∷ 0 ∷ 3 ∷ 3 ∷ 4 ∷ 5 ∷ 5 ∷ 6 ∷ 6 ∷ [];
  sending_ords = (1 ∷ []) ∷ (2 ∷ []) ∷ [] ∷ [] ∷ [] ∷ [] ∷ [] ∷ (7 ∷ []) ∷ (8 ∷ []) ∷ [];
}

atomic_refused : Refused 4 2 atomic_run atomic_witness ("atomic" ∷ "safe" ∷ [])
unfolding opened
atomic_refused = (refl, refl)

-- 5: the second of two actions is delivered, the first is not.
abbrev causal_run : Run
causal_run =
    event 1 (write (regular 1 2)) 1
    ∷ event 1 (write (state (told 1 1 (0 ∷ 0 ∷ []) 0 0 (primary 0 0 3) unmarked no_yellow_lem))) 0
    ∷ event 1 (write (request (65 ∷ []))) 1
    ∷ event 1 (write (request (66 ∷ []))) 1
    ∷ event 1 (write (action (made 1 2 0 (66 ∷ [])))) 0
    ∷ []

abbrev causal_witness : Witness
causal_witness = record {
  sources = sent 0 0 ∷ sent 0 0 ∷ sent 0 0 ∷ sent 0 0 ∷ sent 3 0 ∷ [];
  names = [];
  ords = 0 ∷ 2 ∷ 3 ∷ 5 ∷ 7 ∷ [];
  sending_ords = (1 ∷ []) ∷ [] ∷ (4 ∷ []) ∷ (6 ∷ []) ∷ [] ∷ [];
}

causal_refused : Refused 2 2 causal_run causal_witness ("causal" ∷ [])
unfolding opened
causal_refused = (refl, refl)

-- 7.1: server 0 delivers its State in the configuration of both, and 1 leaves without it.
abbrev safe_run : Run
safe_run =
    event 0 (write (regular 1 3)) 1
    ∷ event 1 (write (regular 1 3)) 1
    ∷ event 0 (write (state (told 0 1 (0 ∷ 0 ∷ []) 0 0 (primary 0 0 3) unmarked no_yellow_lem))) 0
    ∷ event 1 (write (transitional 2)) 0
    ∷ event 1 (write (state (told 1 1 (0 ∷ 0 ∷ []) 0 0 (primary 0 0 3) unmarked no_yellow_lem))) 0
    ∷ event 1 (write (regular 2 2)) 1
    ∷ []

abbrev safe_witness : Witness
safe_witness = record {
  sources = sent 0 0 ∷ sent 0 0 ∷ sent 0 0 ∷ sent 0 0 ∷ sent 1 0 ∷ sent 0 0 ∷ [];
  names = 0 ∷ 0 ∷ 0 ∷ 1 ∷ 0 ∷ 0 ∷ [];
  ords = 0 ∷ 0 ∷ 3 ∷ 4 ∷ 5 ∷ 6 ∷ [];
  sending_ords = (1 ∷ []) ∷ (2 ∷ []) ∷ [] ∷ [] ∷ [] ∷ (7 ∷ []) ∷ [];
}

safe_refused : Refused 2 2 safe_run safe_witness ("safe" ∷ [])
unfolding opened
safe_refused = (refl, refl)
