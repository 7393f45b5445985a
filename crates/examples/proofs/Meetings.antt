-- Document 02, K13, on closed runs: regular configurations that reach all their members, and what is delivered there, counted by computation.
use Prim.Native.Nat.{ℕ, suc, ◌+◌, ◌<◌, ◌^◌}
use mathlib.Core.Path.{◌≡◌, sym, ap, subst, ◌∙◌}
use mathlib.Core.Bool.{Bool, true, false, not}
use mathlib.Core.List.{List, ◌++◌}
use native.Mathlib.Omega.{arith}
use lib.ListN.{get_or}
use Rattle.base.specs.Tests.{◌and◌}
use Rattle.base.specs.Quantifiers.{◌implies◌}
use Rattle.base.specs.Lists.{all, below}
use Rattle.base.specs.Sets.{in_set, size}
use Rattle.base.proofs.TestLaws.{not_both, and_holds, both_yes, not_holds}
use Rattle.base.proofs.AtLaws.{none_some, some_same}
use Rattle.base.proofs.QuantifierLaws.{implied, all_among_lem, among_below}
use Rattle.base.proofs.SetLaws.{member_below}
use Rattle.format.specs.Types.{Action, State, of_state, of_retransmission, of_cpc}
use Rattle.replication.specs.Machine.Types.{Mode, Reg_prim, Construct, Configuration}
use Rattle.replication.specs.Machine.Exchange.{quorum}
use Rattle.replication.specs.Runs.Run.{Run, nowhere, world_at, place_at, heard_at, put_out_by, put_out}
use Rattle.replication.specs.Runs.Happenings.{Takes}
use Rattle.replication.specs.Runs.Allowed.{Allowed}
use Rattle.replication.specs.Runs.Claim.{memory_green}
use Rattle.replication.specs.Runs.Settling.{is_configuration, within, within_regular, says_kind, how_many, brings_by, brings, arrived, taker, state_of}
use Rattle.replication.specs.Runs.Settling.{member_state, all_states, planned_here, ReachesAll, Undisturbed, Exchanged, ArrivesAt, Settles, Settling}
use Rattle.replication.proofs.Runs.Order.{in_regular_of}
use Rattle.replication.proofs.Runs.DeliveryLists.{within_regular_holds, within_regular_yes}
use Rattle.replication.proofs.Runs.Shifts.{Shift, to_regular, to_transitional, to_nowhere, stays, shift}
use Rattle.replication.proofs.Agreement.Whites.Room.{roomy}
use Rattle.replication.proofs.Agreement.Settling.Places.{undisturbed_place, place_undisturbed}
use Rattle.replication.proofs.Agreement.Settling.Settled.{settling}
use Rattle.examples.proofs.Rows.{digit, pairs_of, hex, run_of}
use Rattle.examples.proofs.Shown.{opened as opened_run}

-- ---- a configuration reaches its members

module _ (n q : ℕ) (l : Run) (c : Configuration) where
  -- At p the server k comes into regular c.
  unfoldable pub comes_into : (k p : ℕ) → Bool
  comes_into k p = not (within_regular c (place_at n q l k p)) and within_regular c (place_at n q l k (suc p))

  takes : (k p : ℕ) → comes_into k p ≡ true → Takes n q l p k c
  unfolding comes_into nowhere
  takes k p h = let y = and_holds _ _ h in go (not_holds _ y.0) (within_regular_holds c _ y.1) (shift n q l p k)
    where
      go : within_regular c (place_at n q l k p) ≡ false → place_at n q l k (suc p) ≡ in_regular_of c → Shift n q l p k → Takes n q l p k c
      go f e (to_regular d t m) = subst (Takes n q l p k) (some_same (ap (λ x. x.regular) (sym m ∙ e))) t
      go f e (to_transitional s t m) = none_some (ap (λ x. x.transitional) (sym e ∙ m))
      go f e (to_nowhere g m) = none_some (ap (λ x. x.regular) (sym m ∙ e))
      go f e (stays g d m) = not_both (sym f ∙ within_regular_yes c _ (sym m ∙ e))

  -- Each member does, the server k at the k-th of these places.
  unfoldable pub reaches_at : List ℕ → Bool
  reaches_at places = all (λ k. in_set k c.set implies comes_into k (get_or places k 0)) (below n)

  module _ (places : List ℕ) (s : c.set < 2 ^ n) (h : reaches_at places ≡ true) where
    pub each_takes : (k : ℕ) → in_set k c.set ≡ true → Takes n q l (get_or places k 0) k c
    unfolding reaches_at
    each_takes k m = takes k (get_or places k 0) (implied _ _ (all_among_lem _ (among_below n k (member_below n k c.set s m)) h) m)

-- A configuration of an allowed run that reaches all its members.
pub record Meeting : Type 0 where
  pub servers : ℕ
  pub quota : ℕ
  pub run : Run
  pub allowed : Allowed servers quota run
  pub configuration : Configuration
  pub reaches : ReachesAll servers quota run configuration

unfoldable pub meeting : {n q : ℕ} {l : Run} → Allowed n q l → (c : Configuration) (places : List ℕ) → c.set < 2 ^ n
    → reaches_at n q l c places ≡ true → Meeting
meeting {n} {q} {l} A c places s h = record {
  servers = n;
  quota = q;
  run = l;
  allowed = A;
  configuration = c;
  reaches = record { took = λ k. get_or places k 0; takes = each_takes n q l c places s h };
}

-- ---- what is asked for, and what is delivered

-- States, retransmissions and CPCs.
pub record Counts : Type 0 where
  pub states : ℕ
  pub resent : ℕ
  pub cpcs : ℕ

abbrev pub counts : (states resent cpcs : ℕ) → Counts
counts s r c = record { states = s; resent = r; cpcs = c }

module _ (m : Meeting) where
  unfoldable pub states_of : List State
  states_of = all_states m.servers m.quota m.run m.configuration m.reaches

  unfoldable pub is_quorum : Bool
  is_quorum = quorum states_of m.configuration.set

  -- m States, the planned retransmissions, m CPCs.
  unfoldable pub asked : Counts
  asked =
      counts (size m.configuration.set) (planned_here m.servers m.quota m.run m.configuration m.reaches)
      (size m.configuration.set)

  -- What is delivered to the member k before p.
  unfoldable pub delivered : (k p : ℕ) → Counts
  delivered k p =
      counts (arrived m.servers m.quota m.run m.configuration of_state k p)
      (arrived m.servers m.quota m.run m.configuration of_retransmission k p)
      (arrived m.servers m.quota m.run m.configuration of_cpc k p)

  -- At p the member k is in the regular configuration: nothing has disturbed it.
  unfoldable pub is_within : (k p : ℕ) → Bool
  is_within k p = in_set k m.configuration.set and within_regular m.configuration (place_at m.servers m.quota m.run k p)

  unfoldable pub mode_at : (k p : ℕ) → Mode
  mode_at k p = ((world_at m.servers m.quota m.run p).images k).memory.membership.mode

  -- What the member k has coloured when it has taken the configuration.
  unfoldable pub coloured : ℕ → List Action
  coloured k =
      let t = taker m.servers m.quota m.run m.configuration m.reaches k in
      t.log.green ++ t.log.red

  -- The green list of the server k before p.
  unfoldable pub green_of : (k p : ℕ) → List Action
  green_of k p = memory_green m.servers m.quota m.run p k

  abbrev pub Within : (k p : ℕ) → Type 0
  Within = Undisturbed m.servers m.quota m.run m.configuration m.reaches

  within_yes : (k p : ℕ) → is_within k p ≡ true → Within k p
  unfolding is_within
  within_yes k p h =
      let y = and_holds _ _ h in
      place_undisturbed (roomy m.allowed) m.configuration m.reaches k p y.0 (within_regular_holds m.configuration _ y.1)

  pub within_no : (k p : ℕ) → is_within k p ≡ false → Within k p → ⊥
  unfolding is_within
  within_no k p h u =
      let y = undisturbed_place (roomy m.allowed) m.configuration m.reaches k p u in
      not_both (sym h ∙ both_yes _ _ u.member (within_regular_yes m.configuration _ y))

  -- ---- all has come

  -- At p the last CPC comes to the member k: with it all is there, and Construct ends in Reg_prim.
  pub record LastAt (k p : ℕ) (x : Counts) : Type 0 where
    pub within : is_within k (suc p) ≡ true
    pub all_asked : asked ≡ x
    pub but_one : counts (delivered k p).states (delivered k p).resent ((delivered k p).cpcs + 1) ≡ x
    pub all_there : delivered k (suc p) ≡ x
    pub before : mode_at k p ≡ Construct
    pub after : mode_at k (suc p) ≡ Reg_prim

  abbrev pub Arrives : (k p : ℕ) → Type 0
  Arrives = ArrivesAt m.servers m.quota m.run m.configuration m.reaches

  pub arriving : {k p : ℕ} {x : Counts} → LastAt k p x → Arrives k p
  unfolding asked delivered
  arriving {k} {p} y =
      let z = y.all_there ∙ sym y.all_asked in
      record {
        undisturbed = within_yes k (suc p) y.within;
        now = record {
          exchanged = record { states = ap (λ w. w.states) z; retransmissions = ap (λ w. w.resent) z };
          cpcs = ap (λ w. w.cpcs) z;
        };
        not_before = λ w. omega (arith, w.cpcs, ap (λ u. u.cpcs) (y.but_one ∙ sym y.all_asked));
      }

  pub settled : is_quorum ≡ true → Settles m.servers m.quota m.run m.configuration m.reaches
  unfolding is_quorum states_of Settling
  settled h = settling m.servers m.quota m.run m.allowed m.configuration m.reaches h

  -- ---- all but CPCs has come

  -- At p the member k has all States and the planned retransmissions, and is in this state.
  pub record StandsAt (k p : ℕ) (x : Counts) (mode : Mode) : Type 0 where
    pub within : is_within k p ≡ true
    pub all_states_lem : x.states ≡ asked.states
    pub all_resent : x.resent ≡ asked.resent
    pub there : delivered k p ≡ x
    pub stands : mode_at k p ≡ mode

  abbrev pub HasExchanged : (k p : ℕ) → Type 0
  HasExchanged = Exchanged m.servers m.quota m.run m.configuration m.reaches

  pub standing : {k p : ℕ} {x : Counts} {s : Mode} → StandsAt k p x s → Within k p × HasExchanged k p
  unfolding asked delivered
  standing {k} {p} y = (
    within_yes k p y.within,
    record {
      states = ap (λ w. w.states) y.there ∙ y.all_states_lem;
      retransmissions = ap (λ w. w.resent) y.there ∙ y.all_resent;
    },
  )

-- One name for what closed meetings unfold.
unfoldable pub opened : ℕ
unfolding
    opened_run digit pairs_of hex run_of
    heard_at put_out_by put_out is_configuration within within_regular says_kind how_many brings_by brings arrived state_of member_state all_states planned_here
    comes_into reaches_at meeting states_of is_quorum asked delivered is_within mode_at coloured memory_green green_of
opened = 0
