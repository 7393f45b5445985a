-- Document 01, 'Pairs to prove (P), one table, one theorem', with those of document 02's K1. Each pair is a closed instance of a definition by
-- which the step decides.
use Rattle.std.specs.Prelude.{ℕ, ◌≡◌, true, false, List, [], ◌∷◌, map}
use Rattle.base.specs.Lists.{above, below, filter}
use Rattle.base.specs.Sets.{in_set}
use Rattle.format.specs.Types.{Id, Action, component, State, retransmission}
use Rattle.replication.specs.Machine.Types.{Log, Votes, with_log, with_votes, with_yellow, cleared_mark, no_yellow, start}
use Rattle.replication.specs.Machine.Colours.{reds, green_ids}
use Rattle.replication.specs.Machine.Plan.{own_part}
use Rattle.replication.specs.Machine.Exchange.{taken_yellow, judged_mark, quorum}
use Rattle.replication.specs.Machine.Install.{install_log}
use Rattle.replication.specs.Machine.Step.{own_state}

-- ---- what the servers of the pairs have: eight servers, each at its start but for the votes or the log named

abbrev pub id_of : (creator index : ℕ) → Id
id_of c i = record { creator = c; index = i }

abbrev pub action_of : (creator index : ℕ) → Action
action_of c i = record { id = id_of c i; green_length = 0; white_length = 0; payload = [] }

-- Votes with a last primary of this set; with a valid yellow list; with a mark of the set {0,1,2}, no older than the last primary {1,2}.
abbrev pub last_primary : (set : ℕ) → Votes
last_primary s = record { last = component 1 1 s; attempt = 0; mark = cleared_mark; yellow = no_yellow }

abbrev pub valid_yellow : List Id → Votes
valid_yellow ds = with_yellow (record { status = 1; ids = ds }) (last_primary 255)

abbrev pub marked : (bits : ℕ) → Votes
marked b = record {
  last = component 1 1 6;
  attempt = 1;
  mark = record { status = 1; index = 1; attempt = 1; set = 7; bits = b };
  yellow = no_yellow;
}

-- The State that server k sends in a configuration of the set `here`.
abbrev pub sent_by : (here : ℕ) → Votes → (k : ℕ) → State
sent_by here v k = own_state (record { id = 1; set = here }) (with_votes v (start 8 16 k))

-- The States of all members of `here`, who have the same votes.
abbrev pub sent_in : (here : ℕ) → Votes → List State
sent_in here v = map (sent_by here v) (filter (λ k. in_set k here) (below 8))

-- A log with the actions 1 to 5 of server 0, the first g of them green; and the State of a server with that log.
abbrev pub green_to : ℕ → Log
green_to g = green_ids (map (id_of 0) (above 0 g)) (reds (map (action_of 0) (above 0 5)) (start 8 16 0).log)

abbrev pub green_at : (g k : ℕ) → State
green_at g k = own_state (record { id = 1; set = 7 }) (with_log (green_to g) (start 8 16 k))

-- ---- the table; sets as bytes: {0,1} 3, {0,1,2} 7, {0,1,2,3} 15, {0..4} 31; {2,3} 12, {0,2,3} 13, {1,4} 18, {1,2,3,4} 30

pub record Pairs : Type 0 where
  -- "P1 last primary {0,1,2,3}: {0,1,2} a quorum."
  pub p1 : quorum (sent_in 7 (last_primary 15)) 7 ≡ true
  -- Document 02, K1: "Pair P2 becomes a quorum, and {2,3} stays none." P2 is {0,1}.
  pub p2 : quorum (sent_in 3 (last_primary 15)) 3 ≡ true
  pub p2_others : quorum (sent_in 12 (last_primary 15)) 12 ≡ false
  -- Last primary {1,2,3,4}, without server 0: {1,4} a quorum, {2,3} none, {0,2,3} none.
  pub half_with_lowest_lem : quorum (sent_in 18 (last_primary 30)) 18 ≡ true
  pub half_without_lowest : quorum (sent_in 12 (last_primary 30)) 12 ≡ false
  pub half_with_server_0 : quorum (sent_in 13 (last_primary 30)) 13 ≡ false
  -- "P3 {0..4}: {0,1} none."
  pub p3 : quorum (sent_in 3 (last_primary 31)) 3 ≡ false
  -- "P4 reds (2,1),(0,1),(1,1),(0,2) install as (0,1),(0,2),(1,1),(2,1)."
  pub p4 :
      (install_log [] (reds (action_of 2 1 ∷ action_of 0 1 ∷ action_of 1 1 ∷ action_of 0 2 ∷ []) (start 8 16 0).log)).green
      ≡ action_of 0 1 ∷ action_of 0 2 ∷ action_of 1 1 ∷ action_of 2 1 ∷ []
  -- "P5 yellow (0,3),(1,2) and (0,3),(2,5) give (0,3)."
  pub p5 :
      taken_yellow (sent_by 3 (valid_yellow (id_of 0 3 ∷ id_of 1 2 ∷ [])) 0 ∷ sent_by 3 (valid_yellow (id_of 0 3 ∷ id_of 2 5 ∷ [])) 1 ∷ [])
      ≡ record { status = 1; ids = id_of 0 3 ∷ [] }
  -- "P6 green lengths 2,5,5: server 1 resends 3,4,5."
  pub p6 :
      map (λ k. own_part 8 k 0 (green_to 5) (green_at 2 0 ∷ green_at 5 1 ∷ green_at 5 2 ∷ [])) (1 ∷ 2 ∷ [])
      ≡ (retransmission 1 3 (action_of 0 3) ∷ retransmission 1 4 (action_of 0 4) ∷ retransmission 1 5 (action_of 0 5) ∷ []) ∷ [] ∷ []
  -- "P7 mark set {0,1,2}, bits {0,1}, 2 comes marked alike: cleared."
  pub p7 : judged_mark (sent_by 5 (marked 3) 0 ∷ sent_by 5 (marked 0) 2 ∷ []) (sent_by 5 (marked 3) 0) ≡ cleared_mark
  -- "P8 server 2 stays away: kept."
  pub p8 : judged_mark (sent_by 1 (marked 3) 0 ∷ []) (sent_by 1 (marked 3) 0) ≡ (marked 3).mark
