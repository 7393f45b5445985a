-- Document 01, 'Request' and 'Recovery', with document 02's K4.
use Rattle.std.specs.Prelude.{ℕ, ◌+◌, Bool, true, false, List, map, length}
use Rattle.std.proofs.Math.Option.{Option, none, some}
use Rattle.base.specs.Tests.{◌and◌, ◌<?◌}
use Rattle.base.specs.Lists.{filter, is_there}
use Rattle.format.specs.Limits.{most_number_limit}
use Rattle.format.specs.Types.{Action, Record, action}
use Rattle.replication.specs.Machine.Types.{Mode, Non_prim, Reg_prim, Trans_prim, Exchange_states, Exchange_actions, Construct, No, Un}
use Rattle.replication.specs.Machine.Types.{Log, Membership, Server, with_log, with_membership, with_own, with_sent, no_states}
use Rattle.replication.specs.Machine.Colours.{reds, unwhite}

-- The latest configuration since start or recovery is regular.
unfoldable pub in_regular : Option ℕ → Bool
in_regular none = true
in_regular (some t) = false

-- "sent in Reg_prim, and in Non_prim if the latest configuration since start or recovery is regular"
unfoldable pub sends_in : Mode → Bool → Bool
sends_in Non_prim r = r
sends_in Reg_prim r = true
sends_in Trans_prim r = false
sends_in Exchange_states r = false
sends_in Exchange_actions r = false
sends_in Construct r = false
sends_in No r = false
sends_in Un r = false

unfoldable pub sends_now : Membership → Bool
sends_now m = sends_in m.mode (is_there m.configuration and in_regular m.transitional)

-- Document 02, K6: "Quota now bounds a creator's actions that are not white in its own state": the own ones entered, and K4's on the own list.
abbrev pub unwhite_own : Server → ℕ
unwhite_own s = unwhite s.me s.white s.log + length s.log.own

-- "indexes and cuts run to 65,535"; "Number 3 is given when either bound is reached, not before."
unfoldable pub quota_left : Server → Bool
quota_left s = unwhite_own s <? s.quota and s.log.numbered <? most_number_limit

-- K4: "A request is now numbered, put on the own list and stored whenever it comes"; "It carries the green length of when it was numbered."; K6:
-- "Action bodies gain the creator's white length when numbered".
unfoldable pub made_of : List ℕ → Server → Action
made_of p s = record {
  id = record { creator = s.me; index = s.log.numbered + 1 };
  green_length = length s.log.green;
  white_length = s.white;
  payload = p;
}

unfoldable pub numbered : List ℕ → Server → Server
numbered p s = with_log (with_own (made_of p s) s.log) s

-- K4: "and is sent, one time only, in order when the server reaches Reg_prim, or the part of Non_prim where requests are sent". What waits to be
-- sent: own actions above those sent, and on the own list, for "once entered it is not sent".
unfoldable pub unsent : ℕ → List Action → List Action
unsent sent own = filter (λ a. sent <? a.id.index) own

unfoldable pub waiting : Log → List Action
waiting l = unsent l.sent l.own

unfoldable pub waiting_records : Server → List Record
waiting_records s = map action (waiting s.log)

unfoldable pub send_waiting : Server → Server
send_waiting s = with_log (with_sent s.log.numbered s.log) s

-- "Recovery, from the stored image: Non_prim, no configuration, .. States dropped, own-list actions above the own cut entered red"; K4: "After a
-- crash it is an own-list action like any other".
unfoldable pub recovered : Server → Server
recovered s =
    with_membership (record {
      mode = Non_prim;
      configuration = none;
      transitional = none;
      states = no_states s.servers;
      cpcs = s.membership.cpcs;
      come = s.membership.come;
    }) (with_log (reds s.log.own s.log) s)
