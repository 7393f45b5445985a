-- Every State that a server has collected was put out by its sender on entering the configuration, and says what that server then had.
use Prim.Native.Nat.{ℕ, zero, suc, ◌≤◌, ◌<◌}
use mathlib.Core.Path.{◌≡◌, refl, sym, ap, subst, ◌∙◌}
use mathlib.Core.Bool.{true}
use mathlib.Core.List.{List, Memᴰ}
use mathlib.Core.Logic.{◌⊎◌, inl, inr}
use mathlib.Core.Option.{Option, none, some}
use native.Mathlib.Omega.{arith}
use native.Mathlib.Decide.{dec_lt, ℕ_discrete}
use lib.ListN.{length, get_or, set}
use lib.Seq.{get_or-set_same, get_or-set_other, set_out}
use Rattle.base.proofs.AtLaws.{none_some, some_same, at_among}
use Rattle.base.specs.Sets.{in_set}
use Rattle.format.specs.Types.{State, Record, state}
use Rattle.replication.specs.Machine.Types.{Configuration, Membership, no_states}
use Rattle.replication.specs.Machine.Step.{own_state}
use Rattle.replication.proofs.WellFormed.SentFacts.{sender_of}
use Rattle.replication.specs.Laws.Sending.{PutsOut}
use Rattle.replication.specs.Runs.Run.{Run, place_at}
use Rattle.replication.specs.Runs.Happenings.{is_message, Comes, Takes}
use Rattle.replication.proofs.Runs.Roomy.{Roomy as Allowed}
use Rattle.replication.proofs.Step.Kinds.{state_sent}
use Rattle.replication.proofs.Step.Sending.{puts_out}
use Rattle.replication.proofs.Runs.Deliveries.{Delivery}
use Rattle.replication.proofs.Runs.AllowedTurns.{memory_at}
use Rattle.replication.proofs.Runs.Sending.{Puts}
use Rattle.replication.proofs.Runs.Origins.{origin}
use Rattle.replication.proofs.Runs.Coupling.{coupled}
use Rattle.replication.proofs.Runs.PutRecords.{alone_first}
use Rattle.replication.proofs.Runs.Memberships as M
use Rattle.replication.proofs.Runs.Memberships.{Completes, MembershipStep}
use Rattle.replication.proofs.Runs.Stays.{membership_at, in_stay, StayStep, rested, refused, took, stay_step, entering_membership}

-- ---- what each change does to the collected States

pub data StatesChange (n : ℕ) (m : Membership) (r : Record) (o : Membership) : Type 0 where
  kept : o.states ≡ m.states → StatesChange n m r o
  added : (x : State) → r ≡ state x → o.states ≡ set m.states x.sender (some x) → StatesChange n m r o
  dropped : o.states ≡ no_states n → StatesChange n m r o

completes_states : {n : ℕ} {m : Membership} {r : Record} {o u : Membership} → Completes n m r o → u.states ≡ o.states → StatesChange n m r u
completes_states (M.by_state x e c d) h = added x refl h
completes_states (M.by_retransmission k p a e c) h = kept h

pub states_change : {n : ℕ} {m : Membership} {r : Record} {o : Membership} → MembershipStep n m r o → StatesChange n m r o
states_change (M.ignores r e f) = kept refl
states_change (M.acts a o e t) = kept refl
states_change (M.asks p) = kept refl
states_change (M.collects x e c) = added x refl refl
states_change (M.resends x e c d) = added x refl refl
states_change (M.counts k p a e c) = kept refl
states_change (M.attempts r o c q) = completes_states c refl
states_change (M.settles r o c q) = completes_states c refl
states_change (M.counts_cpc k i e c) = kept refl
states_change (M.installs k i e c) = kept refl
states_change (M.counts_late_cpc k i e c) = kept refl
states_change (M.counts_last_cpc k i e c) = kept refl
states_change (M.installs_late a e) = kept refl
states_change (M.joins c o e j) = dropped refl
states_change (M.leaves o u x e y) = kept refl
states_change M.recovers = dropped refl

pub no_states_none : (n k : ℕ) → get_or (no_states n) k none ≡ none
unfolding no_states
no_states_none zero k = refl
no_states_none (suc n) zero = refl
no_states_none (suc n) (suc k) = no_states_none n k

-- An entry after one was put at i: that one, or one that was there.
pub put_or_there : {A : Type 0} (xs : List (Option A)) (i k : ℕ) (x y : A) → get_or (set xs i (some x)) k none ≡ some y
    → ((k ≡ i) × (x ≡ y)) ⊎ (get_or xs k none ≡ some y)
put_or_there {A} xs i k x y h = go (ℕ_discrete k i) (dec_lt i (length xs))
  where
    go : Dec (k ≡ i) → Dec (i < length xs) → ((k ≡ i) × (x ≡ y)) ⊎ (get_or xs k none ≡ some y)
    go (yes e) (yes b) = inl (e, some_same (sym (get_or-set_same xs i (some x) none b) ∙ ap (λ z. get_or (set xs i (some x)) z none) (sym e) ∙ h))
    go (yes e) (no b) = inr (ap (λ z. get_or z k none) (sym (set_out xs i (some x) (omega arith))) ∙ h)
    go (no e) b = inr (sym (get_or-set_other xs i k (some x) none e) ∙ h)

module _ {n q : ℕ} {l : Run} (A : Allowed n q l) where
  -- What an event that puts something out puts out, and a record of it among them.
  pub puts_among : {v k j : ℕ} {c : Configuration} {y : Record} (x : Puts A v k j c y) → Memᴰ y x.act.by.records
  puts_among {v} {k} {j} {c} {y} x = at_among x.act.by.records j y x.record-there

  pub puts_by : {v k j : ℕ} {c : Configuration} {y : Record} (x : Puts A v k j c y)
      → PutsOut (memory_at n q l v k) x.act.by.event x.act.after x.act.by.records x.act.stores
  puts_by {v} {k} {j} {c} {y} x = puts_out _ x.act.moves

  -- The record to which a server answers by putting out something.
  pub puts_comes : {v k j : ℕ} {c : Configuration} {y : Record} (x : Puts A v k j c y) → Comes n q l v k x.act.by.event
  puts_comes x = record { bytes = x.act.bytes; sent = x.act.sent; here = x.act.here; heard = x.act.heard }

  -- The configuration that a server has after it put something out.
  pub puts_configuration : {v k j : ℕ} {c : Configuration} {y : Record} (x : Puts A v k j c y) → x.act.after.membership.configuration ≡ some c
  puts_configuration {v} {k} x =
      ap (λ z. z.membership.configuration) (sym x.act.memory_next)
      ∙ ap (λ z. z.regular) (coupled A (suc v) k x.act.down_next)
      ∙ ap (λ z. z.regular) x.in_regular_lem

  -- The server k entered c at v, and x says what it then had.
  pub record Entered (v k : ℕ) (c : Configuration) (x : State) : Type 0 where
    pub took : Takes n q l v k c
    pub is : x ≡ own_state c (memory_at n q l (suc v) k)

  -- A State is put out on entering a configuration, and is the own one.
  pub state_entered : {v k j : ℕ} {c : Configuration} {x : State} → Puts A v k j c (state x) → Entered v k c x × (j ≡ 0)
  unfolding own_state
  state_entered {v} {k} {j} {c} {x} u =
      let h = state_sent (puts_by u) x (puts_among u) in
      let e : h.entered ≡ c = some_same (sym h.there ∙ puts_configuration u) in (
        record {
          took = subst (λ d. Takes n q l v k d) e (subst (λ r. Comes n q l v k r) h.brought (puts_comes u));
          is = h.says ∙ ap (λ d. own_state d u.act.after) e ∙ ap (own_state c) (sym u.act.memory_next);
        },
        alone_first u.act.by.records _ j _ h.alone u.record-there,
      )

  -- The record r came to the server i before p, in c.
  pub record Came (p i : ℕ) (c : Configuration) (r : Record) : Type 0 where
    pub place : ℕ
    pub earlier : place < p
    pub delivery : Delivery A place i (A.allowed.source place)
    pub what : delivery.what ≡ r
    pub here : (place_at n q l i place).regular ≡ some c

  pub came_later : {p t i : ℕ} {c : Configuration} {r : Record} → p ≤ t → Came p i c r → Came t i c r
  came_later h x = record { place = x.place; earlier = omega (arith, x.earlier); delivery = x.delivery; what = x.what; here = x.here }

  pub came_now : {p i : ℕ} {c : Configuration} {r : Record} → Comes n q l p i r → is_message r ≡ true → (place_at n q l i p).regular ≡ some c
      → Came (suc p) i c r
  came_now {p} {i} {c} {r} x m h = record { place = p; earlier = omega arith; delivery = record { what = r; comes = x; message = m; which = refl }; what = refl; here = h }

  -- Who sent it, and that it was put out in c.
  pub record Sender (p i : ℕ) (c : Configuration) (r : Record) : Type 0 where
    pub sender : ℕ
    pub sending : ℕ
    pub number : ℕ
    pub puts : Puts A sending sender number c r
    pub earlier : sending < p
    pub named : sender_of r ≡ some sender
    pub member : in_set sender c.set ≡ true

  pub came_from_lem : {p i : ℕ} {c : Configuration} {r : Record} → Came p i c r → Sender p i c r
  came_from_lem {p} {i} {c} {r} x =
      let o = origin A x.delivery in
      let w = some_same (sym o.here ∙ x.here) in
      record {
        sender = o.sender;
        sending = (A.allowed.source x.place).sending;
        number = (A.allowed.source x.place).number;
        puts =
            subst (λ y. Puts A (A.allowed.source x.place).sending o.sender (A.allowed.source x.place).number y r) w
            (subst (λ y. Puts A (A.allowed.source x.place).sending o.sender (A.allowed.source x.place).number o.configuration y) x.what o.puts);
        earlier = omega (arith, o.earlier, x.earlier);
        named = ap sender_of (sym x.what) ∙ o.named;
        member = subst (λ y. in_set o.sender y.set ≡ true) w o.member;
      }

  abbrev StateCame : ℕ → ℕ → ℕ → Configuration → State → Type 0
  StateCame p i k c x = Came p i c (state x) × (k ≡ x.sender)

  -- Every State that a server has collected came to it, in its configuration.
  pub states_came : (i : ℕ) (c : Configuration) (p : ℕ) → (place_at n q l i p).regular ≡ some c → (k : ℕ) (x : State)
      → get_or (membership_at n q l p i).states k none ≡ some x → Came p i c (state x) × (k ≡ x.sender)
  unfolding is_message
  states_came i c =
      in_stay n q l i c (λ p. (k : ℕ) (x : State) → get_or (membership_at n q l p i).states k none ≡ some x → StateCame p i k c x)
      (λ t h k x e. none_some (sym (ap (λ m. get_or m.states k none) (entering_membership A t i c h) ∙ no_states_none n k) ∙ e))
      (λ p a b f g h k x e. go p a g h k x e (stay_step A p i f))
    where
      same : (p : ℕ) → ((k : ℕ) (x : State) → get_or (membership_at n q l p i).states k none ≡ some x → StateCame p i k c x) → (k : ℕ) (x : State)
          → get_or (membership_at n q l (suc p) i).states k none ≡ some x → (membership_at n q l (suc p) i).states ≡ (membership_at n q l p i).states
          → StateCame (suc p) i k c x
      same p h k x e m = let y = h k x (ap (λ z. get_or z k none) (sym m) ∙ e) in (came_later (omega arith) y.0, y.1)

      taking : (p : ℕ) → (place_at n q l i p).regular ≡ some c → ((d : Configuration) → Takes n q l p i d → ⊥)
          → ((k : ℕ) (x : State) → get_or (membership_at n q l p i).states k none ≡ some x → StateCame p i k c x) → (k : ℕ) (x : State)
          → get_or (membership_at n q l (suc p) i).states k none ≡ some x → (r : Record) → Comes n q l p i r
          → StatesChange n (membership_at n q l p i) r (membership_at n q l (suc p) i) → StateCame (suc p) i k c x
      taking p a g h k x e r y (kept m) = same p h k x e m
      taking p a g h k x e r y (added z w m) = at (put_or_there (membership_at n q l p i).states z.sender k z x (ap (λ u. get_or u k none) (sym m) ∙ e))
        where
          at : ((k ≡ z.sender) × (z ≡ x)) ⊎ (get_or (membership_at n q l p i).states k none ≡ some x) → StateCame (suc p) i k c x
          at (inl u) = (came_now (subst (λ s. Comes n q l p i s) (w ∙ ap state u.1) y) refl a, u.0 ∙ ap (λ s. s.sender) u.1)
          at (inr u) = let v = h k x u in (came_later (omega arith) v.0, v.1)
      taking p a g h k x e r y (dropped m) = none_some (sym (ap (λ z. get_or z k none) m ∙ no_states_none n k) ∙ e)

      go : (p : ℕ) → (place_at n q l i p).regular ≡ some c → ((d : Configuration) → Takes n q l p i d → ⊥)
          → ((k : ℕ) (x : State) → get_or (membership_at n q l p i).states k none ≡ some x → StateCame p i k c x) → (k : ℕ) (x : State)
          → get_or (membership_at n q l (suc p) i).states k none ≡ some x → StayStep A p i → StateCame (suc p) i k c x
      go p a g h k x e (rested m) = same p h k x e (ap (λ z. z.states) m)
      go p a g h k x e (refused y m) = same p h k x e (ap (λ z. z.states) m)
      go p a g h k x e (took y z m) = taking p a g h k x e _ z (states_change m)

  -- Every State that a server has collected was put out by its sender on entering the configuration, and says what that server then had.
  pub states_entered : (i : ℕ) (c : Configuration) (p : ℕ) → (place_at n q l i p).regular ≡ some c → (k : ℕ) (x : State)
      → get_or (membership_at n q l p i).states k none ≡ some x → (v : ℕ) × Entered v k c x × (v < p) × (x.sender ≡ k)
  unfolding sender_of
  states_entered i c p a k x e =
      let h = states_came i c p a k x e in
      let o = came_from_lem h.0 in
      let z : o.sender ≡ k = some_same (sym o.named ∙ ap some (sym h.1)) in
      (o.sending, subst (λ j. Entered o.sending j c x) z (state_entered o.puts).0, o.earlier, sym h.1)
