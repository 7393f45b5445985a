-- Which States a server has collected in its stay in a configuration.
use Prim.Native.Nat.{ℕ, ◌≤◌, ◌<◌}
use mathlib.Core.Path.{◌≡◌, refl, sym, ap, ◌∙◌}
use mathlib.Core.Bool.{true, false}
use mathlib.Core.List.{List}
use mathlib.Core.Option.{Option, none, some}
use native.Mathlib.Omega.{arith}
use native.Mathlib.Decide.{dec_lt, ℕ_discrete}
use lib.ListN.{length, get_or, set}
use lib.Seq.{get_or-set_same, get_or-set_other, set_out}
use Rattle.base.proofs.TestLaws.{not_both}
use Rattle.base.specs.Lists.{is_there}
use Rattle.base.proofs.ListLaws.{there}
use Rattle.base.specs.Sets.{in_set}
use Rattle.format.specs.Types.{State, Record, state}
use Rattle.replication.specs.Machine.Types.{Mode, Non_prim, Reg_prim, Trans_prim, Exchange_states, Exchange_actions, Construct, No, Un, Configuration, Membership}
use Rattle.replication.specs.Machine.Step.{the_set, here_set, all_states_in}
use Rattle.replication.proofs.WellFormed.Clauses.{WellFormed}
use Rattle.replication.specs.Runs.Run.{Run}
use Rattle.replication.proofs.Runs.Roomy.{Roomy as Allowed}
use Rattle.replication.proofs.WellFormed.Modes.{all_in_facts, all_in_ok}
use Rattle.replication.proofs.Runs.Numbers.{numbers, invariant_at}
use Rattle.replication.proofs.Runs.AllowedTurns.{memory_at}
use Rattle.replication.proofs.Runs.Progress.{Progress, progress_in, stay_member, progress}
use Rattle.replication.proofs.Runs.Memberships as M
use Rattle.replication.proofs.Runs.Memberships.{every_state_in, Completes, MembershipStep}
use Rattle.replication.proofs.Runs.Stays.{membership_at, stay_configuration}
use Rattle.replication.proofs.Step.Apart.{mode_number, other_mode}
use Rattle.replication.proofs.Agreement.Exchange.Stages.{remains, stage, InCom, KeptInStay}

-- ---- which States each event of a stay leaves

pub data StatesGrow (m : Membership) (r : Record) (o : Membership) : Type 0 where
  as_before : o.states ≡ m.states → StatesGrow m r o
  one_more_lem : (x : State) → r ≡ state x → o.states ≡ set m.states x.sender (some x) → StatesGrow m r o

completes_grow : {n : ℕ} {m : Membership} {r : Record} {o u : Membership} → Completes n m r o → u.states ≡ o.states → StatesGrow m r u
completes_grow (M.by_state x e c d) h = one_more_lem x refl h
completes_grow (M.by_retransmission k p a e c) h = as_before h

pub states_grow : {n : ℕ} {m : Membership} {r : Record} {o : Membership} → MembershipStep n m r o → remains r ≡ true → StatesGrow m r o
unfolding remains
states_grow (M.ignores r e f) h = as_before refl
states_grow (M.acts a o e t) h = as_before refl
states_grow (M.asks p) h = as_before refl
states_grow (M.collects x e c) h = one_more_lem x refl refl
states_grow (M.resends x e c d) h = one_more_lem x refl refl
states_grow (M.counts k p a e c) h = as_before refl
states_grow (M.attempts r o c q) h = completes_grow c refl
states_grow (M.settles r o c q) h = completes_grow c refl
states_grow (M.counts_cpc k i e c) h = as_before refl
states_grow (M.installs k i e c) h = as_before refl
states_grow (M.counts_late_cpc k i e c) h = as_before refl
states_grow (M.counts_last_cpc k i e c) h = as_before refl
states_grow (M.installs_late a e) h = as_before refl
states_grow (M.joins c o e j) h = not_both h
states_grow (M.leaves o u x e y) h = as_before refl
states_grow M.recovers h = not_both h

-- A State that comes in Exchange_states is collected.
completes_adds : {n : ℕ} {m : Membership} {x : State} {o : Membership} → Completes n m (state x) o → o.states ≡ set m.states x.sender (some x)
completes_adds (M.by_state x e c d) = refl

pub state_adds : {n : ℕ} {m : Membership} {x : State} {o : Membership} → MembershipStep n m (state x) o → m.mode ≡ Exchange_states
    → o.states ≡ set m.states x.sender (some x)
unfolding mode_number
state_adds (M.ignores r e f) h = other_mode h f (λ z. omega arith)
state_adds (M.collects x e c) h = refl
state_adds (M.resends x e c d) h = refl
state_adds (M.attempts r o c q) h = completes_adds c
state_adds (M.settles r o c q) h = completes_adds c

-- What is there stays there when another is put in.
set_there : {A : Type 0} (xs : List (Option A)) (i k : ℕ) (x : A) → is_there (get_or xs k none) ≡ true → is_there (get_or (set xs i (some x)) k none) ≡ true
unfolding is_there
set_there xs i k x h = go (ℕ_discrete k i) (dec_lt i (length xs))
  where
    go : Dec (k ≡ i) → Dec (i < length xs) → is_there (get_or (set xs i (some x)) k none) ≡ true
    go (yes e) (yes b) = ap (λ z. is_there (get_or (set xs i (some x)) z none)) e ∙ ap is_there (get_or-set_same xs i (some x) none b)
    go (yes e) (no b) = ap (λ z. is_there (get_or z k none)) (set_out xs i (some x) (omega arith)) ∙ h
    go (no e) b = ap is_there (get_or-set_other xs i k (some x) none e) ∙ h

pub state_stays : (n k : ℕ) → KeptInStay n (λ m. is_there (get_or m.states k none) ≡ true)
state_stays n k m o r s h e = go (states_grow s h)
  where
    go : StatesGrow m r o → is_there (get_or o.states k none) ≡ true
    go (as_before f) = ap (λ z. is_there (get_or z k none)) f ∙ e
    go (one_more_lem x g f) = ap (λ z. is_there (get_or z k none)) f ∙ set_there m.states x.sender k x e

-- ---- a stay

module _ {n q : ℕ} {l : Run} (A : Allowed n q l) (i : ℕ) (c : Configuration) (p : ℕ) (here : InCom n q l p i c) where
  formed : WellFormed (memory_at n q l p i)
  formed = (invariant_at n q i A.allowed.sizes (stay_member A i p c here).0 l p).memory.well_formed_lem

  servers : (memory_at n q l p i).servers ≡ n
  servers = (numbers n q i l p).memory.servers

  pub states_length : length (membership_at n q l p i).states ≡ n
  states_length = formed.membership.states_length ∙ servers

  -- With every State in, each member's is.
  pub complete_in : every_state_in (membership_at n q l p i) ≡ true → (k : ℕ) → k < n → in_set k c.set ≡ true
      → (x : State) × (get_or (membership_at n q l p i).states k none ≡ some x)
  unfolding all_states_in here_set the_set
  complete_in e k h m =
      there _
      (all_in_facts (memory_at n q l p i) formed.membership.states_length e k (omega (arith, servers))
      (ap (λ d. in_set k (the_set d)) (stay_configuration A p i c here) ∙ m))

  -- If each member's State is in, all are.
  pub in_complete : ((k : ℕ) → k < n → in_set k c.set ≡ true → is_there (get_or (membership_at n q l p i).states k none) ≡ true)
      → every_state_in (membership_at n q l p i) ≡ true
  unfolding all_states_in here_set the_set
  in_complete f =
      all_in_ok (memory_at n q l p i) formed.membership.states_length
      (λ k h m. f k (omega (arith, servers)) (ap (λ d. in_set k (the_set d)) (sym (stay_configuration A p i c here)) ∙ m))

  progressed : Progress n (membership_at n q l p i)
  progressed = progress A i c p here

  -- Past Exchange_states every State is in, unless a transitional configuration interrupted the exchange.
  pub states_in_lem : 1 ≤ stage (membership_at n q l p i).mode → ((membership_at n q l p i).mode ≡ Non_prim → (membership_at n q l p i).transitional ≡ none)
      → every_state_in (membership_at n q l p i) ≡ true
  unfolding stage
  states_in_lem h f = go (membership_at n q l p i).mode refl
    where
      go : (m : Mode) → (membership_at n q l p i).mode ≡ m → every_state_in (membership_at n q l p i) ≡ true
      go Non_prim e =
          (progress_in n _ Non_prim e progressed (record { configuration = c; there = stay_configuration A p i c here; none_after = f e })).ended.all_in
      go Reg_prim e = (progress_in n _ Reg_prim e progressed).ended.all_in
      go Trans_prim e = (progress_in n _ Trans_prim e progressed).ended.all_in
      go Exchange_states e = absurd (omega (arith, ap stage e))
      go Exchange_actions e = (progress_in n _ Exchange_actions e progressed).all_in
      go Construct e = (progress_in n _ Construct e progressed).ended.all_in
      go No e = (progress_in n _ No e progressed).ended.all_in
      go Un e = (progress_in n _ Un e progressed).ended.all_in

  -- In Exchange_states some State is missing.
  pub states_missing : (membership_at n q l p i).mode ≡ Exchange_states → every_state_in (membership_at n q l p i) ≡ false
  states_missing e = (progress_in n _ Exchange_states e progressed).not_all_in
