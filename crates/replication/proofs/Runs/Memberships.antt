-- The part of a server that follows configurations, States, CPCs and the count of retransmissions changes by itself: how each event changes it.
use Prim.Native.Nat.{ℕ, ◌+◌}
use mathlib.Core.Path.{◌≡◌, refl, sym, subst}
use mathlib.Core.Bool.{Bool, true, false}
use mathlib.Core.List.{List}
use mathlib.Core.Option.{none, some}
use lib.ListN.{set}
use Rattle.base.specs.Tests.{◌=?◌, ◌≤?◌}
use Rattle.base.specs.Lists.{present}
use Rattle.base.specs.Sets.{inside, with_member}
use Rattle.format.specs.Types.{Action, State, Record, action, retransmission, state, cpc, regular, transitional, request, recovery}
use Rattle.replication.specs.Machine.Types.{Mode, Non_prim, Reg_prim, Trans_prim, Exchange_states, Exchange_actions, Construct, No, Un, Configuration, Membership, Server, with_mode, with_come, no_states}
use Rattle.replication.specs.Machine.Plan.{planned}
use Rattle.replication.specs.Machine.Exchange.{quorum}
use Rattle.replication.specs.Machine.Install.{install}
use Rattle.replication.specs.Machine.Requests.{numbered, send_waiting, recovered}
use Rattle.replication.specs.Machine.Step.{entering, the_set, here_set, collected, decided, attempting, with_state, all_from, all_states_in, planned_now, resending, one_more, exchanged, all_come_of, with_cpc, all_cpcs_in, leave, green_and_note}
use Rattle.replication.specs.Laws.Transitions as L
use Rattle.replication.specs.Laws.Transitions.{Ends, Leads, Transition}
use Rattle.replication.specs.Runs.Happenings.{is_message}
use Rattle.replication.proofs.Step.Control.{yellow_membership}

-- ---- what the rules read off this part

abbrev pub set_in : Membership → ℕ
set_in m = the_set m.configuration

abbrev pub states_in_of : Membership → List State
states_in_of m = present m.states

abbrev pub every_state_in : Membership → Bool
every_state_in m = all_from (set_in m) 0 m.states

abbrev pub every_cpc_in : Membership → Bool
every_cpc_in m = inside (set_in m) m.cpcs

abbrev pub planned_in : ℕ → Membership → ℕ
planned_in n m = planned n (states_in_of m)

abbrev pub quorum_in : Membership → Bool
quorum_in m = quorum (states_in_of m) (set_in m)

-- ---- changes

abbrev pub state_added : State → Membership → Membership
state_added x m =
    record { mode = m.mode; configuration = m.configuration; transitional = m.transitional; states = set m.states x.sender (some x); cpcs = m.cpcs; come = m.come }

abbrev pub cpc_added : ℕ → Membership → Membership
cpc_added k m =
    record { mode = m.mode; configuration = m.configuration; transitional = m.transitional; states = m.states; cpcs = with_member k m.cpcs; come = m.come }

abbrev pub one_more_come : Membership → Membership
one_more_come m = with_come (m.come + 1) m

abbrev pub entered_in : ℕ → Configuration → Membership → Membership
entered_in n c m = record { mode = Exchange_states; configuration = some c; transitional = none; states = no_states n; cpcs = 0; come = m.come }

abbrev pub left_to : Mode → ℕ → Membership → Membership
left_to o x m = record { mode = o; configuration = m.configuration; transitional = some x; states = m.states; cpcs = m.cpcs; come = m.come }

abbrev pub recovered_in : ℕ → Membership → Membership
recovered_in n m = record { mode = Non_prim; configuration = none; transitional = none; states = no_states n; cpcs = m.cpcs; come = m.come }

-- States that a regular configuration finds a server in.
pub data Joinable : Mode → Type 0 where
  from_non_prim : Joinable Non_prim
  from_trans_prim : Joinable Trans_prim
  from_no : Joinable No
  from_un : Joinable Un

-- States in which an action changes nothing of this part.
pub data TakesActions : Mode → Type 0 where
  in_reg_prim : TakesActions Reg_prim
  in_trans_prim : TakesActions Trans_prim
  in_exchange_states : TakesActions Exchange_states

-- The record that ends the exchange, and what it leaves of this part before the decision.
pub data Completes (n : ℕ) (m : Membership) : Record → Membership → Type 0 where
  by_state : (x : State) → m.mode ≡ Exchange_states → every_state_in (state_added x m) ≡ true → (planned_in n (state_added x m) =? 0) ≡ true
      → Completes n m (state x) (state_added x m)
  by_retransmission : (k p : ℕ) (a : Action) → m.mode ≡ Exchange_actions → (planned_in n m ≤? m.come + 1) ≡ true
      → Completes n m (retransmission k p a) (one_more_come m)

-- How an event changes this part, at a server of n.
pub data MembershipStep (n : ℕ) (m : Membership) : Record → Membership → Type 0 where
  ignores : (r : Record) → is_message r ≡ true → m.mode ≡ Non_prim → MembershipStep n m r m
  acts : (a : Action) (o : Mode) → m.mode ≡ o → TakesActions o → MembershipStep n m (action a) m
  asks : (p : List ℕ) → MembershipStep n m (request p) m
  collects : (x : State) → m.mode ≡ Exchange_states → every_state_in (state_added x m) ≡ false → MembershipStep n m (state x) (state_added x m)
  resends : (x : State) → m.mode ≡ Exchange_states → every_state_in (state_added x m) ≡ true → (planned_in n (state_added x m) =? 0) ≡ false
      → MembershipStep n m (state x) (with_mode Exchange_actions (with_come 0 (state_added x m)))
  counts : (k p : ℕ) (a : Action) → m.mode ≡ Exchange_actions → (planned_in n m ≤? m.come + 1) ≡ false
      → MembershipStep n m (retransmission k p a) (one_more_come m)
  attempts : (r : Record) (o : Membership) → Completes n m r o → quorum_in o ≡ true → MembershipStep n m r (with_mode Construct o)
  settles : (r : Record) (o : Membership) → Completes n m r o → quorum_in o ≡ false → MembershipStep n m r (with_mode Non_prim o)
  counts_cpc : (k i : ℕ) → m.mode ≡ Construct → every_cpc_in (cpc_added k m) ≡ false → MembershipStep n m (cpc k i) (cpc_added k m)
  installs : (k i : ℕ) → m.mode ≡ Construct → every_cpc_in (cpc_added k m) ≡ true → MembershipStep n m (cpc k i) (with_mode Reg_prim (cpc_added k m))
  counts_late_cpc : (k i : ℕ) → m.mode ≡ No → every_cpc_in (cpc_added k m) ≡ false → MembershipStep n m (cpc k i) (cpc_added k m)
  counts_last_cpc : (k i : ℕ) → m.mode ≡ No → every_cpc_in (cpc_added k m) ≡ true → MembershipStep n m (cpc k i) (with_mode Un (cpc_added k m))
  installs_late : (a : Action) → m.mode ≡ Un → MembershipStep n m (action a) (with_mode Trans_prim m)
  joins : (c : Configuration) (o : Mode) → m.mode ≡ o → Joinable o → MembershipStep n m (regular c.id c.set) (entered_in n c m)
  leaves : (o u : Mode) (x : ℕ) → m.mode ≡ o → Leads o u → MembershipStep n m (transitional x) (left_to u x m)
  recovers : MembershipStep n m recovery (recovered_in n m)

module _ (s : Server) where
  ended : (r : Record) (t u : Server) (rs : List Record) → Completes s.servers s.membership r t.membership → Ends t u rs
      → MembershipStep s.servers s.membership r u.membership
  unfolding attempting decided send_waiting numbered collected here_set
  ended r t u rs h (L.with_quorum q) = attempts _ _ h q
  ended r t u rs h (L.without_quorum q) = settles _ _ h q

  pub membership_step : {r : Record} {t : Server} {rs : List Record} {b : Bool} → Transition s r t rs b
      → MembershipStep s.servers s.membership r t.membership
  unfolding is_message green_and_note install exchanged one_more with_state resending with_cpc send_waiting numbered entering leave recovered all_states_in planned_now collected here_set all_come_of all_cpcs_in
  membership_step (L.ignores_state x e) = ignores (state x) refl e
  membership_step (L.ignores_cpc k i e) = ignores (cpc k i) refl e
  membership_step (L.reddens a e) = ignores (action a) refl e
  membership_step (L.reddens_resent k p a e) = ignores (retransmission k p a) refl e
  membership_step (L.reddens_in_exchange a e) = acts a Exchange_states e in_exchange_states
  membership_step (L.greens a e) = acts a Reg_prim e in_reg_prim
  membership_step (L.yellows a e) =
      subst (MembershipStep s.servers s.membership (action a)) (sym (yellow_membership a s)) (acts a Trans_prim e in_trans_prim)
  membership_step (L.installs_late a e) =
      subst (λ m. MembershipStep s.servers s.membership (action a) (with_mode Trans_prim m)) (sym (yellow_membership a (install s))) (installs_late a e)
  membership_step (L.exchanges k p a e c) = counts k p a e c
  membership_step (L.exchanges_last k p a t rs e c x) = ended _ (exchanged p a s) _ _ (by_retransmission k p a e c) x
  membership_step (L.collects x e c) = collects x e c
  membership_step (L.collects_last x e c d) = resends x e c d
  membership_step (L.collects_whole x t rs e c d y) = ended _ (with_state x s) _ _ (by_state x e c d) y
  membership_step (L.counts k i e c) = counts_cpc k i e c
  membership_step (L.installs k i e c) = installs k i e c
  membership_step (L.counts_late k i e c) = counts_late_cpc k i e c
  membership_step (L.counts_all_late k i e c) = counts_last_cpc k i e c
  membership_step (L.joins c e) = joins c Non_prim e from_non_prim
  membership_step (L.joins_marked c e) = joins c Un e from_un
  membership_step (L.joins_unmarked c e) = joins c No e from_no
  membership_step (L.joins_yellow c e) = joins c Trans_prim e from_trans_prim
  membership_step (L.leaves o u x e y) = leaves o u x e y
  membership_step (L.sends p c) = asks p
  membership_step (L.numbers p c) = asks p
  membership_step L.recovers = recovers
