-- What a server had delivered when it sent a message, whoever delivers that message has delivered before it.
use Prim.Native.Nat.{ℕ, suc, ◌<◌}
use mathlib.Core.Path.{◌≡◌, refl, sym, ap, subst, ◌∙◌}
use mathlib.Core.Bool.{true}
use mathlib.Core.Option.{none}
use native.Mathlib.Omega.{arith}
use native.Mathlib.Decide.{dec_lt}
use lib.ListN.{get_or}
use Rattle.base.proofs.TestLaws.{not_both}
use Rattle.base.proofs.AtLaws.{some_same}
use Rattle.base.specs.Lists.{is_there}
use Rattle.base.specs.Sets.{in_set}
use Rattle.format.specs.Types.{Record}
use Rattle.replication.specs.Machine.Types.{Exchange_states, Configuration}
use Rattle.replication.specs.Runs.Run.{Run}
use Rattle.replication.specs.Runs.Happenings.{Message, entry_at, sending_of, Sends, Comes, Causes, in_turn_lem, sends, carries, through}
use Rattle.replication.proofs.Runs.Roomy.{Roomy as Allowed}
use Rattle.replication.proofs.Runs.Shifts.{comes_of}
use Rattle.replication.proofs.Runs.Deliveries.{Delivery, delivered_where_sent}
use Rattle.replication.proofs.Runs.Origins.{origin, delivery_says}
use Rattle.replication.proofs.Runs.StateOrigins.{Came, states_came}
use Rattle.replication.proofs.Runs.Memberships.{every_state_in}
use Rattle.replication.proofs.Runs.Stays.{membership_at}
use Rattle.replication.proofs.Agreement.Exchange.Stages.{InCom}
use Rattle.replication.proofs.Agreement.Exchange.Collected.{complete_in, in_complete, states_missing}
use Rattle.replication.proofs.Agreement.Exchange.States.{states_recorded}

module _ {n q : ℕ} {l : Run} (A : Allowed n q l) where
  -- The message of what came.
  abbrev pub message_of : {p i : ℕ} {c : Configuration} {r : Record} → Came A p i c r → Message
  message_of w = A.allowed.source w.place

  came_sent : {p i : ℕ} {c : Configuration} {r : Record} (w : Came A p i c r) → (j : ℕ) × Sends n q l j (message_of w) c
  came_sent w =
      let o = origin A w.delivery in
      (o.sender, subst (λ d. Sends n q l o.sender (message_of w) d) (some_same (sym o.here ∙ w.here)) o.sends)

  module _ {m : Message} {k : ℕ} {c : Configuration} (s : Sends n q l k m c) {r : Record} (w : Came A (suc m.sending) k c r) where
    precedes : Causes n q l A.allowed.source A.allowed.name (sending_of (message_of w)) (sending_of m)
    precedes = through (carries k (message_of w) w.delivery) (go (dec_lt w.place m.sending))
      where
        go : Dec (w.place < m.sending) → Causes n q l A.allowed.source A.allowed.name (entry_at w.place) (sending_of m)
        go (yes h) = through (in_turn_lem k (comes_of w.delivery.comes) s.mine h) (sends m s.out)
        go (no h) =
            let e : m.sending ≡ w.place = omega (arith, w.earlier) in
            subst (λ x. Causes n q l A.allowed.source A.allowed.name (entry_at x) (sending_of m)) e (sends m s.out)

    -- What came to the sender by the sending came to whoever delivers the message, before it, and is the same message.
    pub came_before : {p i : ℕ} → Delivery A p i m → (y : Came A p i c r) × (message_of y ≡ message_of w)
    came_before {p} {i} d =
        let t = came_sent w in
        let x = A.allowed.causal p t.0 k i (message_of w) m c t.1 s precedes d in
        let v = x.1.which in (
          record {
            place = x.0;
            earlier = x.2;
            delivery = record { what = x.1.what; comes = x.1.comes; message = x.1.message; which = refl };
            what = some_same (sym (delivery_says A x.1) ∙ delivery_says A w.delivery) ∙ w.what;
            here = delivered_where_sent A x.1 t.1;
          },
          v,
        )

  -- If the sender had all States, whoever delivers its message is not in Exchange_states.
  pub not_collecting : {m : Message} {k p i : ℕ} {c : Configuration} → Sends n q l k m c → InCom n q l (suc m.sending) k c
      → every_state_in (membership_at n q l (suc m.sending) k) ≡ true → Delivery A p i m → InCom n q l p i c → (membership_at n q l p i).mode ≡ Exchange_states → ⊥
  not_collecting {m} {k} {p} {i} {c} s a e d b f = not_both (sym (states_missing A i c p b f) ∙ in_complete A i c p b (λ j h u. state_in_lem j h u))
    where
      state_in_lem : (j : ℕ) → j < n → in_set j c.set ≡ true → is_there (get_or (membership_at n q l p i).states j none) ≡ true
      state_in_lem j h u =
          let x = complete_in A k c (suc m.sending) a e j h u in
          let w = states_came A k c (suc m.sending) a j x.0 x.1 in
          let y = (came_before s w.0 d).0 in
          ap (λ z. is_there (get_or (membership_at n q l p i).states z none)) w.1
          ∙ states_recorded A p i c b f y.place x.0 y.earlier (subst (λ r. Comes n q l y.place i r) y.what y.delivery.comes) y.here
