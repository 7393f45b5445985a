-- A taken event: what it read, the rule that it took, and the transition that it made.
use Rattle.std.specs.Prelude.{ℕ, ◌≡◌, Bool, true, false, List, [], ◌∷◌, map}
use Rattle.std.proofs.Math.Option.{some}
use Rattle.base.specs.Tests.{◌or◌, ◌=?◌}
use Rattle.format.specs.Types.{Action, State, Record, action, retransmission, state, cpc, regular, transitional, request, recovery, says}
use Rattle.format.specs.Read.{read}
use Rattle.format.specs.Write.{write}
use Rattle.replication.specs.Machine.Types.{Mode, Non_prim, Reg_prim, Trans_prim, Exchange_states, Exchange_actions, Construct, No, Un}
use Rattle.replication.specs.Machine.Types.{Configuration, Server, taken, with_log, with_votes, with_white, in_mode, mode_of, context_of}
use Rattle.replication.specs.Machine.Colours.{red, yellow}
use Rattle.replication.specs.Machine.Exchange.{quorum}
use Rattle.replication.specs.Machine.Install.{install}
use Rattle.replication.specs.Machine.Plan.{own_part}
use Rattle.replication.specs.Machine.Requests.{sends_now, numbered, send_waiting, waiting_records, recovered}
use Rattle.replication.specs.Machine.Rules.{Rule, rule_for, possible, from_member, is_ignored, within_quota}
use Rattle.replication.specs.Machine.Step.{entering, own_state, unmarked, yellow_valid, here_set, here_id, collected, decided, attempting}
use Rattle.replication.specs.Machine.Step.{with_state, all_states_in, planned_now, resending, exchanged, all_come_of, with_cpc, all_cpcs_in, leave}
use Rattle.replication.specs.Machine.Step.{green_and_note, apply}
use Rattle.replication.specs.Machine.White.{full, sieved, white_after}

-- ---- the rule

-- The event e, taken by s, gives t, the bytes bs, the store word b and the newly green actions g.
pub record TakenBy (s : Server) (e : List ℕ) (t : Server) (bs : List (List ℕ)) (b : Bool) (g : List Action) : Type 0 where
  pub event : Record
  pub rule : Rule
  pub records : List Record
  pub reads : read (context_of s) e ≡ says event
  pub ruled : rule_for (mode_of s) event ≡ some rule
  pub can : possible s event ≡ true
  pub member : (is_ignored rule or from_member s.membership event) ≡ true
  pub quota : within_quota s event ≡ true
  pub core : Server
  pub applied : apply (sieved (full rule s) rule) s ≡ taken core records b g
  pub raise : t ≡ with_white (white_after rule s core) core
  pub written : bs ≡ map write records

-- ---- the transition: each rule with the state that has it and the tests that it makes

-- How the exchange ends at t: the new state and the records.
pub data Ends (t : Server) : Server → List Record → Type 0 where
  with_quorum : quorum (collected t) (here_set t) ≡ true → Ends t (attempting (decided t)) (cpc t.me (here_id t) ∷ [])
  without_quorum : quorum (collected t) (here_set t) ≡ false
      → Ends t (send_waiting (in_mode Non_prim (decided t))) (waiting_records (in_mode Non_prim (decided t)))

-- Where a transitional configuration leads from a state that takes it.
pub data Leads : Mode → Mode → Type 0 where
  stays : Leads Non_prim Non_prim
  parts : Leads Reg_prim Trans_prim
  interrupts_states : Leads Exchange_states Non_prim
  interrupts_actions : Leads Exchange_actions Non_prim
  interrupts_construct : Leads Construct No

-- What the server s does with the record it reads: the new state, the records sent, and the store word.
pub data Transition (s : Server) : Record → Server → List Record → Bool → Type 0 where
  -- "Non_prim: .. State and CPC ignored."
  ignores_state : (x : State) → mode_of s ≡ Non_prim → Transition s (state x) s [] false
  ignores_cpc : (k i : ℕ) → mode_of s ≡ Non_prim → Transition s (cpc k i) s [] false
  -- an action or retransmission entered red; an action green, yellow, after a late Install
  reddens : (a : Action) → mode_of s ≡ Non_prim → Transition s (action a) (with_log (red a s.log) s) [] false
  reddens_resent : (k p : ℕ) (a : Action) → mode_of s ≡ Non_prim → Transition s (retransmission k p a) (with_log (red a s.log) s) [] false
  reddens_in_exchange : (a : Action) → mode_of s ≡ Exchange_states → Transition s (action a) (with_log (red a s.log) s) [] false
  greens : (a : Action) → mode_of s ≡ Reg_prim → Transition s (action a) (green_and_note a s) [] false
  yellows : (a : Action) → mode_of s ≡ Trans_prim → Transition s (action a) (yellow a s) [] false
  installs_late : (a : Action) → mode_of s ≡ Un → Transition s (action a) (in_mode Trans_prim (yellow a (install s))) [] true
  -- a retransmission in an exchange, not the last; the last
  exchanges : (k p : ℕ) (a : Action) → mode_of s ≡ Exchange_actions → all_come_of (exchanged p a s) ≡ false
      → Transition s (retransmission k p a) (exchanged p a s) [] false
  exchanges_last : (k p : ℕ) (a : Action) (t : Server) (rs : List Record) → mode_of s ≡ Exchange_actions → all_come_of (exchanged p a s) ≡ true
      → Ends (exchanged p a s) t rs → Transition s (retransmission k p a) t rs true
  -- a State that is not the last; the last, with something planned; the last, with nothing planned
  collects : (x : State) → mode_of s ≡ Exchange_states → all_states_in (with_state x s) ≡ false
      → Transition s (state x) (with_state x s) [] false
  collects_last : (x : State) → mode_of s ≡ Exchange_states → all_states_in (with_state x s) ≡ true → (planned_now (with_state x s) =? 0) ≡ false
      → Transition s (state x) (resending (with_state x s)) (own_part s.servers s.me s.white s.log (collected (with_state x s))) false
  collects_whole : (x : State) (t : Server) (rs : List Record) → mode_of s ≡ Exchange_states → all_states_in (with_state x s) ≡ true
      → (planned_now (with_state x s) =? 0) ≡ true → Ends (with_state x s) t rs → Transition s (state x) t rs true
  -- a CPC that is not the last; the last; the same after a transitional configuration
  counts : (k i : ℕ) → mode_of s ≡ Construct → all_cpcs_in (with_cpc k s) ≡ false → Transition s (cpc k i) (with_cpc k s) [] false
  installs : (k i : ℕ) → mode_of s ≡ Construct → all_cpcs_in (with_cpc k s) ≡ true
      → Transition s (cpc k i) (send_waiting (in_mode Reg_prim (install (with_cpc k s))))
      (waiting_records (in_mode Reg_prim (install (with_cpc k s)))) true
  counts_late : (k i : ℕ) → mode_of s ≡ No → all_cpcs_in (with_cpc k s) ≡ false → Transition s (cpc k i) (with_cpc k s) [] false
  counts_all_late : (k i : ℕ) → mode_of s ≡ No → all_cpcs_in (with_cpc k s) ≡ true → Transition s (cpc k i) (in_mode Un (with_cpc k s)) [] false
  -- a regular configuration, with the mark kept, cleared, cleared and yellow made valid
  joins : (c : Configuration) → mode_of s ≡ Non_prim → Transition s (regular c.id c.set) (entering c s) (state (own_state c s) ∷ []) true
  joins_marked : (c : Configuration) → mode_of s ≡ Un → Transition s (regular c.id c.set) (entering c s) (state (own_state c s) ∷ []) true
  joins_unmarked : (c : Configuration) → mode_of s ≡ No
      → Transition s (regular c.id c.set) (entering c (with_votes (unmarked s.votes) s))
      (state (own_state c (with_votes (unmarked s.votes) s)) ∷ []) true
  joins_yellow : (c : Configuration) → mode_of s ≡ Trans_prim
      → Transition s (regular c.id c.set) (entering c (with_votes (yellow_valid (unmarked s.votes)) s))
      (state (own_state c (with_votes (yellow_valid (unmarked s.votes)) s)) ∷ []) true
  -- a transitional configuration, a request sent or only numbered, recovery
  leaves : (from to : Mode) (x : ℕ) → mode_of s ≡ from → Leads from to → Transition s (transitional x) (leave to x s) [] false
  sends : (p : List ℕ) → sends_now s.membership ≡ true
      → Transition s (request p) (send_waiting (numbered p s)) (waiting_records (numbered p s)) true
  numbers : (p : List ℕ) → sends_now s.membership ≡ false → Transition s (request p) (numbered p s) [] true
  recovers : Transition s recovery (recovered s) [] true
