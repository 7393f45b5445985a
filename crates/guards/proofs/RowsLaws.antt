-- Rows 5, 6 and 3 from the numbers h of a state s.
use Prim.Native.Nat.{ℕ, ◌+◌, ◌-◌, ◌≤◌, ◌<◌}
use mathlib.Core.Path.{◌≡◌, refl, sym, ap, ◌∙◌}
use mathlib.Core.Bool.{Bool, true, false, not}
use mathlib.Core.Option.{Option, none, some}
use native.Mathlib.Omega.{arith}
use lib.Dec.{eqb, leb, ltb}
use lib.ListN.{length}
use Rattle.base.specs.Tests.{◌or◌, ◌and◌, ◌=?◌, ◌≤?◌, ◌<?◌, pick}
use Rattle.base.proofs.TestLaws.{eq_yes, eq_no, lt_yes, lt_no, and_yes, and_no}
use Rattle.base.specs.Lists.{is_there}
use Rattle.base.specs.Sets.{in_set}
use Rattle.format.specs.Limits.{most_number_limit}
use Rattle.format.specs.Types.{Id, Action}
use Rattle.record.specs.Values.{id_of}
use Rattle.record.specs.declared.State.{State}
use Rattle.replication.specs.Machine.Types.{Mode, Non_prim, Reg_prim, Trans_prim, Exchange_states, Exchange_actions, Construct, No, Un, Configuration, Server}
use Rattle.replication.specs.Machine.Colours.{unwhite}
use Rattle.replication.specs.Machine.Requests.{in_regular, sends_in, sends_now, unwhite_own, quota_left}
use Rattle.replication.specs.Machine.Rules.{numbered_own, regular_due, transitional_due, member_of, is_of, state_in, cpc_in}
use Rattle.image.specs.Header.{status_of, header_of, mode_number}
use Rattle.image.specs.Header as numbers
use Rattle.image.specs.Decode.{mode_named}
use Rattle.image.proofs.HeaderRead.{mode_named_lem}
use Rattle.image.proofs.Slots.{in_senders}

-- A field that may be absent, by its status.
status_test : {A : Type 0} (x : Option A) → eqb (status_of x) 1 ≡ is_there x
unfolding status_of is_there
status_test none = refl
status_test (some y) = refl

status_there : {A : Type 0} (x : Option A) → status_of x ≡ 1 → is_there x ≡ true
unfolding status_of is_there
status_there none e = absurd (omega arith)
status_there (some y) e = refl

status_none : {A : Type 0} (x : Option A) → (status_of x ≡ 1 → ⊥) → is_there x ≡ false
unfolding status_of is_there
status_none none e = refl
status_none (some y) e = absurd (e refl)

-- ---- own actions

pub others_numbered : (h : State) (k i : ℕ) → (k ≡ h.me → ⊥) → (s : Server) (a : Action) → h ≡ header_of s → a.id ≡ id_of k i → true ≡ numbered_own s a
unfolding numbered_own header_of id_of ◌or◌
others_numbered h k i other s a e f =
    let me : h.me ≡ s.me = ap (λ (x : State). x.me) e in
    let c : a.id.creator ≡ k = ap (λ (d : Id). d.creator) f in
    rw (eq_no a.id.creator s.me (λ g. other (sym c ∙ g ∙ sym me)))

pub own_numbered : (h : State) (k i : ℕ) → k ≡ h.me → (s : Server) (a : Action) → h ≡ header_of s → a.id ≡ id_of k i → leb i h.numbered ≡ numbered_own s a
unfolding numbered_own header_of id_of ◌or◌ ◌≤?◌
own_numbered h k i same s a e f =
    let me : h.me ≡ s.me = ap (λ (x : State). x.me) e in
    let c : a.id.creator ≡ k = ap (λ (d : Id). d.creator) f in
    rw (eq_yes a.id.creator s.me (c ∙ same ∙ me)) (λ j. leb (ap (λ (d : Id). d.index) (sym f) j) (e j).numbered)

-- ---- configurations

pub regular_after : (h : State) → h.transitional_status ≡ 1 → (s : Server) → h ≡ header_of s → true ≡ regular_due s.membership
unfolding regular_due header_of ◌or◌
regular_after h same s e =
    let t : h.transitional_status ≡ status_of s.membership.transitional = ap (λ (x : State). x.transitional_status) e in
    rw (status_there s.membership.transitional (sym t ∙ same))

pub regular_first : (h : State) → (h.transitional_status ≡ 1 → ⊥) → (s : Server) → h ≡ header_of s
    → not (eqb h.configuration_status 1) ≡ regular_due s.membership
unfolding regular_due header_of ◌or◌
regular_first h other s e =
    let t : h.transitional_status ≡ status_of s.membership.transitional = ap (λ (x : State). x.transitional_status) e in
    rw (status_none s.membership.transitional (λ g. other (t ∙ g)))
    ((λ j. not (eqb (e j).configuration_status 1)) ∙ ap not (status_test s.membership.configuration))

pub transitional_first : (h : State) (s : Server) → h ≡ header_of s → not (eqb h.transitional_status 1) ≡ transitional_due s.membership
unfolding transitional_due header_of
transitional_first h s e = (λ j. not (eqb (e j).transitional_status 1)) ∙ ap not (status_test s.membership.transitional)

-- ---- members

no_member : (k : ℕ) (x : Option Configuration) → (status_of x ≡ 1 → ⊥) → false ≡ member_of x k
unfolding member_of status_of
no_member k none other = refl
no_member k (some c) other = absurd (other refl)

a_member : (k : ℕ) (x : Option Configuration) → status_of x ≡ 1 → in_set k (numbers.set_of x) ≡ member_of x k
unfolding member_of status_of numbers.set_of
a_member k none same = absurd (omega arith)
a_member k (some c) same = refl

pub outside_all : (h : State) (k : ℕ) → (h.configuration_status ≡ 1 → ⊥) → (s : Server) → h ≡ header_of s → false ≡ member_of s.membership.configuration k
unfolding header_of
outside_all h k other s e = no_member k s.membership.configuration (λ g. other ((λ j. (e j).configuration_status) ∙ g))

pub member_told : (h : State) (k : ℕ) (r : Bool) → (h.configuration_status ≡ 1) → r ≡ in_set k h.configuration_set → (s : Server) → h ≡ header_of s
    → r ≡ member_of s.membership.configuration k
unfolding header_of
member_told h k r same f s e =
    f ∙ (λ j. in_set k (e j).configuration_set) ∙ a_member k s.membership.configuration ((λ j. (sym e j).configuration_status) ∙ same)

no_id_lem : (i : ℕ) (x : Option Configuration) → (status_of x ≡ 1 → ⊥) → false ≡ is_of x i
unfolding is_of status_of
no_id_lem i none other = refl
no_id_lem i (some c) other = absurd (other refl)

an_id : (i : ℕ) (x : Option Configuration) → status_of x ≡ 1 → eqb i (numbers.id_of x) ≡ is_of x i
unfolding is_of status_of numbers.id_of ◌=?◌
an_id i none same = absurd (omega arith)
an_id i (some c) same = refl

pub of_none : (h : State) (i : ℕ) → (h.configuration_status ≡ 1 → ⊥) → (s : Server) → h ≡ header_of s → false ≡ is_of s.membership.configuration i
unfolding header_of
of_none h i other s e = no_id_lem i s.membership.configuration (λ g. other ((λ j. (e j).configuration_status) ∙ g))

pub of_last : (h : State) (i : ℕ) → (h.configuration_status ≡ 1) → (s : Server) → h ≡ header_of s → eqb i h.configuration_id ≡ is_of s.membership.configuration i
unfolding header_of
of_last h i same s e =
    (λ j. eqb i (e j).configuration_id) ∙ an_id i s.membership.configuration ((λ j. (sym e j).configuration_status) ∙ same)

-- ---- what is in

pub state_told : (h : State) (k : ℕ) (r : Bool) → r ≡ in_set k h.states → (s : Server) → h ≡ header_of s → r ≡ state_in s.membership k
unfolding header_of state_in
state_told h k r f s e =
    let m : 0 + k ≡ k = omega arith in
    f ∙ (λ j. in_set (sym m j) (e j).states) ∙ in_senders 0 s.membership.states k

pub cpc_told : (h : State) (k : ℕ) (r : Bool) → r ≡ in_set k h.cpcs → (s : Server) → h ≡ header_of s → r ≡ cpc_in s.membership k
unfolding header_of cpc_in
cpc_told h k r f s e = f ∙ (λ j. in_set k (e j).cpcs)

-- ---- requests

-- By the mode's number.
sends_one : (m : Mode) (r : Bool) → mode_number m ≡ 1 → true ≡ sends_in m r
unfolding sends_in mode_named pick ◌=?◌ mode_number
sends_one m r e = ap (λ (x : Mode). sends_in x r) (ap mode_named (sym e) ∙ mode_named_lem m)

sends_zero : (m : Mode) (r : Bool) → mode_number m ≡ 0 → r ≡ sends_in m r
unfolding sends_in mode_named pick ◌=?◌ mode_number
sends_zero m r e = ap (λ (x : Mode). sends_in x r) (ap mode_named (sym e) ∙ mode_named_lem m)

sends_other : (m : Mode) (r : Bool) → (mode_number m ≡ 1 → ⊥) → (mode_number m ≡ 0 → ⊥) → false ≡ sends_in m r
unfolding sends_in mode_number
sends_other Non_prim r one zero = absurd (zero refl)
sends_other Reg_prim r one zero = absurd (one refl)
sends_other Trans_prim r one zero = refl
sends_other Exchange_states r one zero = refl
sends_other Exchange_actions r one zero = refl
sends_other Construct r one zero = refl
sends_other No r one zero = refl
sends_other Un r one zero = refl

regular_told : (x : Option ℕ) → not (eqb (status_of x) 1) ≡ in_regular x
unfolding status_of in_regular
regular_told none = refl
regular_told (some t) = refl

pub sends_primary : (h : State) → h.mode ≡ 1 → (s : Server) → h ≡ header_of s → true ≡ sends_now s.membership
unfolding header_of sends_now
sends_primary h same s e = sends_one s.membership.mode _ ((λ j. (sym e j).mode) ∙ same)

pub sends_elsewhere : (h : State) → (h.mode ≡ 1 → ⊥) → (h.mode ≡ 0 → ⊥) → (s : Server) → h ≡ header_of s → false ≡ sends_now s.membership
unfolding header_of sends_now
sends_elsewhere h one zero s e =
    sends_other s.membership.mode _ (λ g. one ((λ j. (e j).mode) ∙ g)) (λ g. zero ((λ j. (e j).mode) ∙ g))

pub sends_unformed : (h : State) → h.mode ≡ 0 → (h.configuration_status ≡ 1 → ⊥) → (s : Server) → h ≡ header_of s → false ≡ sends_now s.membership
unfolding header_of sends_now ◌and◌
sends_unformed h zero other s e =
    let f : is_there s.membership.configuration ≡ false = status_none s.membership.configuration (λ g. other ((λ j. (e j).configuration_status) ∙ g)) in
    rw f (sends_zero s.membership.mode false ((λ j. (sym e j).mode) ∙ zero))

pub sends_formed : (h : State) → h.mode ≡ 0 → h.configuration_status ≡ 1 → (s : Server) → h ≡ header_of s
    → not (eqb h.transitional_status 1) ≡ sends_now s.membership
unfolding header_of sends_now ◌and◌
sends_formed h zero same s e =
    let f : is_there s.membership.configuration ≡ true = status_there s.membership.configuration ((λ j. (sym e j).configuration_status) ∙ same) in
    rw f
    ((λ j. not (eqb (e j).transitional_status 1))
    ∙ regular_told s.membership.transitional
    ∙ sends_zero s.membership.mode (in_regular s.membership.transitional) ((λ j. (sym e j).mode) ∙ zero))

module _ (h : State) (own : ℕ) where
  -- What is entered takes the whole quota.
  pub quota_entered : h.quota ≤ own → (s : Server) → h ≡ header_of s → own ≡ unwhite s.me s.white s.log → false ≡ quota_left s
  unfolding header_of quota_left
  quota_entered most s e f =
      let q : h.quota ≡ s.quota = ap (λ (x : State). x.quota) e in
      and_no (unwhite_own s <? s.quota) (s.log.numbered <? most_number_limit) (lt_no (unwhite_own s) s.quota (omega arith))

  -- With the own list it does.
  pub quota_waiting : h.quota - own ≤ h.own_count → (s : Server) → h ≡ header_of s → own ≡ unwhite s.me s.white s.log → false ≡ quota_left s
  unfolding header_of quota_left
  quota_waiting most s e f =
      let q : h.quota ≡ s.quota = ap (λ (x : State). x.quota) e in
      let list : h.own_count ≡ length s.log.own = ap (λ (x : State). x.own_count) e in
      and_no (unwhite_own s <? s.quota) (s.log.numbered <? most_number_limit) (lt_no (unwhite_own s) s.quota (omega arith))

  pub quota_told : own < h.quota → h.own_count < h.quota - own → (s : Server) → h ≡ header_of s → own ≡ unwhite s.me s.white s.log
      → ltb h.numbered most_number_limit ≡ quota_left s
  unfolding header_of quota_left ◌<?◌
  quota_told low less s e f =
      let q : h.quota ≡ s.quota = ap (λ (x : State). x.quota) e in
      let list : h.own_count ≡ length s.log.own = ap (λ (x : State). x.own_count) e in
      and_yes (ltb h.numbered most_number_limit) (unwhite_own s <? s.quota) (s.log.numbered <? most_number_limit) (lt_yes (unwhite_own s) s.quota (omega arith))
      (λ j. ltb (e j).numbered most_number_limit)
