-- States, retransmissions and CPCs that have come to an undisturbed member, by count: all are in exactly when as many have come as there are.
use Prim.Native.Nat.{ℕ, ◌≤◌, ◌<◌, ◌^◌}
use mathlib.Core.Path.{◌≡◌, refl, sym, ap, subst, ◌∙◌}
use mathlib.Core.Bool.{Bool, true, false}
use mathlib.Core.Option.{Option, none, some}
use native.Mathlib.Omega.{arith}
use native.Mathlib.Decide.{dec_lt}
use lib.ListN.{length, get_or}
use Rattle.base.specs.Lists.{at, is_there}
use Rattle.base.specs.Sets.{in_set, inside, size}
use Rattle.base.proofs.TestLaws.{not_both, Known, holds, fails, known}
use Rattle.base.proofs.SetLaws.{inside_member, members_inside}
use Rattle.base.proofs.Counting.{passing_alike, most_members, all_members, fewer_members}
use Rattle.format.specs.Types.{State, Record, action, retransmission, state, cpc, regular, transitional, request, recovery, kind_number, kind_of, of_state, of_retransmission, of_cpc, Reading, says, refused}
use Rattle.replication.specs.Machine.Types.{Non_prim, Exchange_states, Configuration}
use Rattle.replication.specs.Machine.Step.{the_set}
use Rattle.replication.specs.Runs.Run.{Entry, event, crash, store, Run, place_at, heard_at}
use Rattle.replication.specs.Runs.Happenings.{is_message, Comes}
use Rattle.replication.proofs.Runs.Roomy.{Roomy as Allowed}
use Rattle.replication.specs.Runs.Settling.{brings, arrived, ReachesAll, Undisturbed}
use Rattle.replication.proofs.Runs.Order.{in_regular_of, still_regular}
use Rattle.replication.proofs.Runs.StateOrigins.{states_came}
use Rattle.replication.proofs.Runs.CpcOrigins.{cpcs_came}
use Rattle.replication.proofs.Runs.Memberships.{every_state_in, every_cpc_in}
use Rattle.replication.proofs.Runs.Stays.{membership_at, stay_configuration}
use Rattle.replication.proofs.Agreement.Votes.Collected.{taken_below}
use Rattle.replication.proofs.Agreement.Exchange.Stages.{InCom}
use Rattle.replication.proofs.Agreement.Exchange.Answers.{coming}
use Rattle.replication.proofs.Agreement.Exchange.Collected.{complete_in, in_complete}
use Rattle.replication.proofs.Agreement.Exchange.States.{state_message, state_comes_once, states_recorded}
use Rattle.replication.proofs.Agreement.Exchange.Cpcs.{cpc_message, cpc_comes_once}
use Rattle.replication.proofs.Agreement.Exchange.CpcsTaken.{cpcs_recorded}
use Rattle.replication.proofs.Agreement.Exchange.Retransmissions.{resent_at, resent_yes, resent_holds}
use Rattle.replication.proofs.Agreement.Exchange.Tally.{resent_count}
use Rattle.replication.proofs.Agreement.Settling.Arrivals.{is_state_lem, is_retransmission, is_cpc, arrived_length, brings_yes, brings_holds}
use Rattle.replication.proofs.Agreement.Settling.Places.{undisturbed_place}

-- Whose State or CPC a record is.
named_in : Record → ℕ
named_in (action a) = 0
named_in (retransmission k p a) = 0
named_in (state x) = x.sender
named_in (cpc k i) = k
named_in (regular i s) = 0
named_in (transitional s) = 0
named_in (request p) = 0
named_in recovery = 0

named : Reading Record → ℕ
named (says r) = named_in r
named (refused k) = 0

module _ (n q : ℕ) (l : Run) (i : ℕ) where
  name_by : ℕ → Option Entry → ℕ
  name_by p none = 0
  name_by p (some (crash j)) = 0
  name_by p (some (store j)) = 0
  name_by p (some (event j e m)) = named (heard_at n q l p i e)

  -- Whose State or CPC comes to the server i at p.
  name_at : ℕ → ℕ
  name_at p = name_by p (at l p)

  name_at_lem : (p : ℕ) (r : Record) → Comes n q l p i r → name_at p ≡ named_in r
  unfolding name_at name_by named
  name_at_lem p r x = ap (name_by p) x.here ∙ ap named x.heard

same_tests : (t u : Bool) → (t ≡ true → u ≡ true) → (u ≡ true → t ≡ true) → t ≡ u
same_tests true u f g = sym (f refl)
same_tests false true f g = g refl
same_tests false false f g = refl

module _ {n q : ℕ} {l : Run} (A : Allowed n q l) (c : Configuration) (r : ReachesAll n q l c) (i p : ℕ) (u : Undisturbed n q l c r i p) where
  pub there_now : InCom n q l p i c
  there_now = ap (λ x. x.regular) (undisturbed_place A c r i p u)

  small : c.set < 2 ^ n
  small = taken_below (r.takes i u.member)

  regular_then : (x : ℕ) → x < p → InCom n q l x i c → place_at n q l i x ≡ in_regular_of c
  regular_then x h e = still_regular A i x p c e (undisturbed_place A c r i p u) (omega arith)

  -- ---- States

  -- The State that comes at x.
  record StateAt (x : ℕ) : Type 0 where
    says : State
    comes : Comes n q l x i (state says)
    inside : InCom n q l x i c
    name : name_at n q l i x ≡ says.sender

  state_at_lem : (x : ℕ) → brings n q l c of_state i x ≡ true → StateAt x
  unfolding kind_number named_in
  state_at_lem x h =
      let y = brings_holds n q l c of_state i x h in
      let s = is_state_lem y.0 y.2 in
      let z = subst (λ w. Comes n q l x i w) s.1 y.1 in
      record { says = s.0; comes = z; inside = ap (λ w. w.regular) y.3; name = name_at_lem n q l i x _ z }

  state_member : (x : ℕ) → x < p → brings n q l c of_state i x ≡ true → (name_at n q l i x < n) × (in_set (name_at n q l i x) c.set ≡ true)
  unfolding is_message
  state_member x h e =
      let y = state_at_lem x e in
      let m = state_message A (coming A y.comes refl) refl y.inside in
      (subst (λ z. z < n) (sym y.name) (A.allowed.servers (A.allowed.source x).sending _ m.sends.mine), ap (λ z. in_set z c.set) y.name ∙ m.member)

  state_once : (x y : ℕ) → x < p → y < p → brings n q l c of_state i x ≡ true → brings n q l c of_state i y ≡ true
      → name_at n q l i x ≡ name_at n q l i y → x ≡ y
  unfolding is_message
  state_once x y h k e f g =
      let a = state_at_lem x e in
      let b = state_at_lem y f in
      state_comes_once A (coming A a.comes refl) (coming A b.comes refl) refl refl a.inside b.inside (sym a.name ∙ g ∙ b.name)

  pub states_all : every_state_in (membership_at n q l p i) ≡ true → arrived n q l c of_state i p ≡ size c.set
  unfolding kind_number kind_of named_in
  states_all full =
      arrived_length n q l c of_state i p
      ∙ all_members (brings n q l c of_state i) p (name_at n q l i) n c.set small state_member state_once (λ k h m. from k h m)
    where
      from : (k : ℕ) → k < n → in_set k c.set ≡ true
          → (x : ℕ) × (x < p) × (brings n q l c of_state i x ≡ true) × (name_at n q l i x ≡ k)
      from k h m =
          let s = complete_in A i c p there_now full k h m in
          let w = states_came A i c p there_now k s.0 s.1 in
          let come = subst (λ z. Comes n q l w.0.place i z) w.0.what w.0.delivery.comes in (
            w.0.place,
            w.0.earlier,
            brings_yes n q l c of_state i w.0.place _ come refl (regular_then w.0.place w.0.earlier w.0.here),
            name_at_lem n q l i w.0.place _ come ∙ sym w.1,
          )

  pub states_fewer : (membership_at n q l p i).mode ≡ Exchange_states → every_state_in (membership_at n q l p i) ≡ false → arrived n q l c of_state i p < size c.set
  states_fewer e missing = go (dec_lt (arrived n q l c of_state i p) (size c.set))
    where
      there_if : (k : ℕ) → k < n → in_set k c.set ≡ true → (arrived n q l c of_state i p < size c.set → ⊥)
          → Known (is_there (get_or (membership_at n q l p i).states k none)) → is_there (get_or (membership_at n q l p i).states k none) ≡ true
      there_if k h m f (holds g) = g
      there_if k h m f (fails g) =
          let z =
          fewer_members (brings n q l c of_state i) p (name_at n q l i) n c.set small state_member state_once k h m
          (λ x b t w.
          let y = state_at_lem x t in
          not_both
          (sym (ap (λ z. is_there (get_or (membership_at n q l p i).states z none)) (sym y.name ∙ w) ∙ g)
          ∙ states_recorded A p i c there_now e x y.says b y.comes y.inside))
          in
          absurd (f (omega (arith, z, arrived_length n q l c of_state i p)))

      go : Dec (arrived n q l c of_state i p < size c.set) → arrived n q l c of_state i p < size c.set
      go (yes h) = h
      go (no h) = not_both (sym missing ∙ in_complete A i c p there_now (λ k a b. there_if k a b h (known _)))

  -- ---- CPCs

  record CpcAt (x : ℕ) : Type 0 where
    sender : ℕ
    id : ℕ
    comes : Comes n q l x i (cpc sender id)
    inside : InCom n q l x i c
    name : name_at n q l i x ≡ sender

  cpc_at : (x : ℕ) → brings n q l c of_cpc i x ≡ true → CpcAt x
  unfolding kind_number named_in
  cpc_at x h =
      let y = brings_holds n q l c of_cpc i x h in
      let s = is_cpc y.0 y.2 in
      let z = subst (λ w. Comes n q l x i w) s.2 y.1 in
      record { sender = s.0; id = s.1; comes = z; inside = ap (λ w. w.regular) y.3; name = name_at_lem n q l i x _ z }

  cpc_member : (x : ℕ) → x < p → brings n q l c of_cpc i x ≡ true → (name_at n q l i x < n) × (in_set (name_at n q l i x) c.set ≡ true)
  unfolding is_message
  cpc_member x h e =
      let y = cpc_at x e in
      let m = (cpc_message A (coming A y.comes refl) refl y.inside).0 in
      (subst (λ z. z < n) (sym y.name) (A.allowed.servers (A.allowed.source x).sending _ m.sends.mine), ap (λ z. in_set z c.set) y.name ∙ m.member)

  cpc_once : (x y : ℕ) → x < p → y < p → brings n q l c of_cpc i x ≡ true → brings n q l c of_cpc i y ≡ true
      → name_at n q l i x ≡ name_at n q l i y → x ≡ y
  unfolding is_message
  cpc_once x y h k e f g =
      let a = cpc_at x e in
      let b = cpc_at y f in
      let s : a.sender ≡ b.sender = sym a.name ∙ g ∙ b.name in
      let come : Comes n q l x i (cpc b.sender a.id) = subst (λ z. Comes n q l x i (cpc z a.id)) s a.comes in
      cpc_comes_once A (coming A come refl) (coming A b.comes refl) refl refl a.inside b.inside

  pub cpcs_most : arrived n q l c of_cpc i p ≤ size c.set
  cpcs_most =
      omega (arith, arrived_length n q l c of_cpc i p, most_members (brings n q l c of_cpc i) p (name_at n q l i) n c.set small cpc_member cpc_once)

  set_here : the_set (membership_at n q l p i).configuration ≡ c.set
  unfolding the_set
  set_here = ap the_set (stay_configuration A p i c there_now)

  pub cpcs_all : every_cpc_in (membership_at n q l p i) ≡ true → arrived n q l c of_cpc i p ≡ size c.set
  unfolding kind_number kind_of named_in
  cpcs_all full =
      arrived_length n q l c of_cpc i p
      ∙ all_members (brings n q l c of_cpc i) p (name_at n q l i) n c.set small cpc_member cpc_once (λ k h m. from k h m)
    where
      from : (k : ℕ) → k < n → in_set k c.set ≡ true
          → (x : ℕ) × (x < p) × (brings n q l c of_cpc i x ≡ true) × (name_at n q l i x ≡ k)
      from k h m =
          let w =
          cpcs_came A i c p there_now k
          (inside_member (the_set (membership_at n q l p i).configuration) (membership_at n q l p i).cpcs k full (ap (in_set k) set_here ∙ m))
          in
          let come = subst (λ z. Comes n q l w.1.place i z) w.1.what w.1.delivery.comes in (
            w.1.place,
            w.1.earlier,
            brings_yes n q l c of_cpc i w.1.place _ come refl (regular_then w.1.place w.1.earlier w.1.here),
            name_at_lem n q l i w.1.place _ come,
          )

  pub cpcs_fewer : ((membership_at n q l p i).mode ≡ Non_prim → ⊥) → every_cpc_in (membership_at n q l p i) ≡ false → arrived n q l c of_cpc i p < size c.set
  cpcs_fewer e missing = go (dec_lt (arrived n q l c of_cpc i p) (size c.set))
    where
      there_if : (k : ℕ) → k < n → in_set k c.set ≡ true → (arrived n q l c of_cpc i p < size c.set → ⊥)
          → Known (in_set k (membership_at n q l p i).cpcs) → in_set k (membership_at n q l p i).cpcs ≡ true
      there_if k h m f (holds g) = g
      there_if k h m f (fails g) =
          let z =
          fewer_members (brings n q l c of_cpc i) p (name_at n q l i) n c.set small cpc_member cpc_once k h m
          (λ x b t w.
          let y = cpc_at x t in
          not_both
          (sym (ap (λ z. in_set z (membership_at n q l p i).cpcs) (sym y.name ∙ w) ∙ g)
          ∙ cpcs_recorded A p i c there_now e x y.sender y.id b y.comes y.inside))
          in
          absurd (f (omega (arith, z, arrived_length n q l c of_cpc i p)))

      go : Dec (arrived n q l c of_cpc i p < size c.set) → arrived n q l c of_cpc i p < size c.set
      go (yes h) = h
      go (no h) =
          not_both
          (sym missing
          ∙ ap (λ z. inside z (membership_at n q l p i).cpcs) set_here
          ∙ members_inside n c.set (membership_at n q l p i).cpcs small (λ k a b. there_if k a b h (known _)))

  -- ---- retransmissions

  pub resent_arrived : arrived n q l c of_retransmission i p ≡ resent_count A i c p
  unfolding kind_number kind_of
  resent_arrived =
      arrived_length n q l c of_retransmission i p
      ∙ ap length (passing_alike (brings n q l c of_retransmission i) (resent_at n q l c i) p (λ x h. same_tests _ _ (λ e. there x h e) (λ e. back x h e)))
    where
      there : (x : ℕ) → x < p → brings n q l c of_retransmission i x ≡ true → resent_at n q l c i x ≡ true
      there x h e =
          let y = brings_holds n q l c of_retransmission i x e in
          let s = is_retransmission y.0 y.2 in
          resent_yes n q l c i x s.0 s.1 s.2 (subst (λ w. Comes n q l x i w) s.3 y.1) (ap (λ w. w.regular) y.3)

      back : (x : ℕ) → x < p → resent_at n q l c i x ≡ true → brings n q l c of_retransmission i x ≡ true
      back x h e =
          let y = resent_holds n q l c i x e in
          brings_yes n q l c of_retransmission i x _ y.3 refl (regular_then x h y.4)
