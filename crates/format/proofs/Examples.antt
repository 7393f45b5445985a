-- Records of each kind, their bytes, and what is read of bytes.
use Prim.Native.Nat.{ℕ}
use mathlib.Core.Path.{◌≡◌, refl}
use mathlib.Core.List.{List, [], ◌∷◌, ◌++◌}
use mathlib.Core.Option.{none, some}
use Rattle.base.specs.Tests.{◌and◌, ◌or◌, ◌≤?◌, ◌<?◌, ◌=?◌, pick}
use Rattle.base.specs.Bytes.{are_bytes, bytes_of, number_at, numbers_at, part_at, joined}
use Rattle.base.specs.Sets.{in_set, inside}
use Rattle.format.specs.Types.{Action, Mark, State, action, retransmission, state, cpc, regular, transitional, request, recovery, kind_number, kind_of, Context, says, refused}
use Rattle.format.specs.Range.{sizes_ok, context_ok, id_ok, length_ok, payload_ok, action_ok, cuts_ok, index_ok, set_ok, status_ok, primary_ok, mark_ok, same_id, has_id, ids_differ, ids_in_range, ids_ok, yellow_ok, configuration_ok, state_ok, own_set_ok, inside_last, fields_ok, record_ok}
use Rattle.format.specs.Write.{framed, payload_bytes, id_bytes, action_bytes, cuts_bytes, primary_bytes, mark_bytes, ids_bytes, yellow_bytes, state_bytes, body_of, write}
use Rattle.format.specs.Read.{payload_at, id_at, action_at, primary_at, mark_at, ids_at, yellow_at_of, state_at, kind_named, length_for, frame_ok, record_in, read_as, read}
use Rattle.format.specs.Setup.{write_setup, setup_in, setup_frame_ok, setup_ok, read_setup}

-- One name that opens the format: to unfold it is to unfold what its own line names.
opened : ℕ
unfolding ◌and◌ ◌or◌ ◌≤?◌ ◌<?◌ ◌=?◌ pick are_bytes bytes_of number_at numbers_at part_at joined in_set inside kind_number kind_of sizes_ok context_ok id_ok length_ok payload_ok action_ok cuts_ok index_ok set_ok status_ok primary_ok mark_ok same_id has_id ids_differ ids_in_range ids_ok yellow_ok configuration_ok state_ok own_set_ok inside_last fields_ok record_ok framed payload_bytes id_bytes action_bytes cuts_bytes primary_bytes mark_bytes ids_bytes yellow_bytes state_bytes body_of write payload_at id_at action_at primary_at mark_at ids_at yellow_at_of state_at kind_named length_for frame_ok record_in read_as read write_setup setup_in setup_frame_ok setup_ok read_setup
opened = 0

-- ---- document 01, 'What `replay` prints': "Input n=2, q=1, server 1: regular id 1 set {1}; its State; request "A"; that action"

abbrev server1 : Context
server1 = record { servers = 2; quota = 1; self = 1; last = none }

setup_bytes : write_setup (record { servers = 2; quota = 1 }) ≡ 0 ∷ 5 ∷ 2 ∷ 9 ∷ 2 ∷ 0 ∷ 1 ∷ []
unfolding opened
setup_bytes = refl

setup_read : read_setup 4 16 (0 ∷ 5 ∷ 2 ∷ 9 ∷ 2 ∷ 0 ∷ 1 ∷ []) ≡ says (record { servers = 2; quota = 1 })
unfolding opened
setup_read = refl

regular_bytes : write (regular 1 2) ≡ 0 ∷ 7 ∷ 2 ∷ 5 ∷ 0 ∷ 0 ∷ 0 ∷ 1 ∷ 2 ∷ []
unfolding opened
regular_bytes = refl

regular_read : read server1 (0 ∷ 7 ∷ 2 ∷ 5 ∷ 0 ∷ 0 ∷ 0 ∷ 1 ∷ 2 ∷ []) ≡ says (regular 1 2)
unfolding opened
regular_read = refl

abbrev none_marked : Mark
none_marked = record { status = 0; index = 0; attempt = 0; set = 0; bits = 0 }

abbrev first_state : State
first_state = record {
  sender = 1;
  configuration = 1;
  cuts = 0 ∷ 0 ∷ [];
  green_length = 0;
  attempt = 0;
  last = record { index = 0; attempt = 0; set = 3 };
  mark = none_marked;
  yellow = record { status = 0; ids = [] };
}

-- length, version, kind, sender, configuration; cuts, green length, attempt; last primary; mark; yellow
abbrev first_state_bytes : List ℕ
first_state_bytes =
    (0 ∷ 42 ∷ 2 ∷ 3 ∷ 1 ∷ 0 ∷ 0 ∷ 0 ∷ 1 ∷ [])
    ++ (0 ∷ 0 ∷ 0 ∷ 0 ∷ 0 ∷ 0 ∷ 0 ∷ 0 ∷ 0 ∷ 0 ∷ 0 ∷ 0 ∷ [])
    ++ (0 ∷ 0 ∷ 0 ∷ 0 ∷ 0 ∷ 0 ∷ 0 ∷ 0 ∷ 3 ∷ [])
    ++ (0 ∷ 0 ∷ 0 ∷ 0 ∷ 0 ∷ 0 ∷ 0 ∷ 0 ∷ 0 ∷ 0 ∷ 0 ∷ [])
    ++ (0 ∷ 0 ∷ 0 ∷ [])

state_bytes_lem : write (state first_state) ≡ first_state_bytes
unfolding opened
state_bytes_lem = refl

state_read : read server1 first_state_bytes ≡ says (state first_state)
unfolding opened
state_read = refl

request_bytes : write (request (65 ∷ [])) ≡ 0 ∷ 4 ∷ 2 ∷ 7 ∷ 1 ∷ 65 ∷ []
unfolding opened
request_bytes = refl

request_read : read server1 (0 ∷ 4 ∷ 2 ∷ 7 ∷ 1 ∷ 65 ∷ []) ≡ says (request (65 ∷ []))
unfolding opened
request_read = refl

abbrev first_action : Action
first_action = record { id = record { creator = 1; index = 1 }; green_length = 0; white_length = 0; payload = 65 ∷ [] }

action_bytes_lem : write (action first_action) ≡ 0 ∷ 15 ∷ 2 ∷ 1 ∷ 1 ∷ 0 ∷ 1 ∷ 0 ∷ 0 ∷ 0 ∷ 0 ∷ 0 ∷ 0 ∷ 0 ∷ 0 ∷ 1 ∷ 65 ∷ []
unfolding opened
action_bytes_lem = refl

action_read : read server1 (0 ∷ 15 ∷ 2 ∷ 1 ∷ 1 ∷ 0 ∷ 1 ∷ 0 ∷ 0 ∷ 0 ∷ 0 ∷ 0 ∷ 0 ∷ 0 ∷ 0 ∷ 1 ∷ 65 ∷ []) ≡ says (action first_action)
unfolding opened
action_read = refl

-- ---- the other kinds, and numbers of several bytes, at n = 3 and q = 256

abbrev server0 : Context
server0 = record { servers = 3; quota = 256; self = 0; last = some 3 }

retransmission_bytes : write (retransmission 2 515 (record { id = record { creator = 0; index = 256 }; green_length = 768; white_length = 5; payload = 7 ∷ 8 ∷ [] }))
    ≡ 0 ∷ 21 ∷ 2 ∷ 2 ∷ 2 ∷ 0 ∷ 0 ∷ 2 ∷ 3 ∷ 0 ∷ 1 ∷ 0 ∷ 0 ∷ 0 ∷ 3 ∷ 0 ∷ 0 ∷ 0 ∷ 0 ∷ 5 ∷ 2 ∷ 7 ∷ 8 ∷ []
unfolding opened
retransmission_bytes = refl

cpc_bytes : write (cpc 2 305419896) ≡ 0 ∷ 7 ∷ 2 ∷ 4 ∷ 2 ∷ 18 ∷ 52 ∷ 86 ∷ 120 ∷ []
unfolding opened
cpc_bytes = refl

cpc_read : read server0 (0 ∷ 7 ∷ 2 ∷ 4 ∷ 2 ∷ 18 ∷ 52 ∷ 86 ∷ 120 ∷ []) ≡ says (cpc 2 305419896)
unfolding opened
cpc_read = refl

transitional_bytes : write (transitional 3) ≡ 0 ∷ 3 ∷ 2 ∷ 6 ∷ 3 ∷ []
unfolding opened
transitional_bytes = refl

transitional_read : read server0 (0 ∷ 3 ∷ 2 ∷ 6 ∷ 3 ∷ []) ≡ says (transitional 3)
unfolding opened
transitional_read = refl

recovery_bytes : write recovery ≡ 0 ∷ 2 ∷ 2 ∷ 8 ∷ []
unfolding opened
recovery_bytes = refl

recovery_read : read server0 (0 ∷ 2 ∷ 2 ∷ 8 ∷ []) ≡ says recovery
unfolding opened
recovery_read = refl

-- ---- refusals

empty_refused : read server0 [] ≡ refused 1
unfolding opened
empty_refused = refl

version_refused : read server0 (0 ∷ 2 ∷ 1 ∷ 8 ∷ []) ≡ refused 1
unfolding opened
version_refused = refl

-- "Nothing may follow."
more_refused : read server0 (0 ∷ 3 ∷ 2 ∷ 8 ∷ 0 ∷ []) ≡ refused 1
unfolding opened
more_refused = refl

-- A set-up record is no event.
kind_refused : read server0 (0 ∷ 5 ∷ 2 ∷ 9 ∷ 3 ∷ 1 ∷ 0 ∷ []) ≡ refused 1
unfolding opened
kind_refused = refl

-- The length comes before the range: a payload of 49 that is not there is 1, not 2.
payload_refused : read server0 (0 ∷ 3 ∷ 2 ∷ 7 ∷ 49 ∷ []) ≡ refused 1
unfolding opened
payload_refused = refl

-- Indexes of actions run 1 to 65,535.
index_refused : read server1 (0 ∷ 15 ∷ 2 ∷ 1 ∷ 1 ∷ 0 ∷ 0 ∷ 0 ∷ 0 ∷ 0 ∷ 0 ∷ 0 ∷ 0 ∷ 0 ∷ 0 ∷ 1 ∷ 65 ∷ []) ≡ refused 2
unfolding opened
index_refused = refl

-- "A regular set holds the server itself"
own_refused : read server1 (0 ∷ 7 ∷ 2 ∷ 5 ∷ 0 ∷ 0 ∷ 0 ∷ 2 ∷ 1 ∷ []) ≡ refused 2
unfolding opened
own_refused = refl

-- "a transitional set .. lies inside the last regular one"
outside_refused : read server0 (0 ∷ 3 ∷ 2 ∷ 6 ∷ 5 ∷ []) ≡ refused 2
unfolding opened
outside_refused = refl

-- "Ids in a yellow list differ."
abbrev with_yellow_lem : (creator : ℕ) → List ℕ
with_yellow_lem creator =
    (0 ∷ 48 ∷ 2 ∷ 3 ∷ 1 ∷ 0 ∷ 0 ∷ 0 ∷ 1 ∷ [])
    ++ (0 ∷ 0 ∷ 0 ∷ 0 ∷ 0 ∷ 0 ∷ 0 ∷ 0 ∷ 0 ∷ 0 ∷ 0 ∷ 0 ∷ [])
    ++ (0 ∷ 0 ∷ 0 ∷ 0 ∷ 0 ∷ 0 ∷ 0 ∷ 0 ∷ 3 ∷ [])
    ++ (0 ∷ 0 ∷ 0 ∷ 0 ∷ 0 ∷ 0 ∷ 0 ∷ 0 ∷ 0 ∷ 0 ∷ 0 ∷ [])
    ++ (1 ∷ 0 ∷ 2 ∷ 1 ∷ 0 ∷ 1 ∷ creator ∷ 0 ∷ 1 ∷ [])

differ_read : read server1 (with_yellow_lem 0)
    ≡ says (state (record {
      sender = 1;
      configuration = 1;
      cuts = 0 ∷ 0 ∷ [];
      green_length = 0;
      attempt = 0;
      last = record { index = 0; attempt = 0; set = 3 };
      mark = none_marked;
      yellow = record { status = 1; ids = record { creator = 1; index = 1 } ∷ record { creator = 0; index = 1 } ∷ [] };
    }))
unfolding opened
differ_read = refl

twice_refused : read server1 (with_yellow_lem 1) ≡ refused 2
unfolding opened
twice_refused = refl

-- `replay` "takes n to 4 and q to 16"
setup_refused : read_setup 4 16 (0 ∷ 5 ∷ 2 ∷ 9 ∷ 5 ∷ 0 ∷ 1 ∷ []) ≡ refused 2
unfolding opened
setup_refused = refl
