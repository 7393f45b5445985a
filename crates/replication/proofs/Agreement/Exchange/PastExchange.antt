-- Whoever delivers, in a configuration, a message of a server that has ended the exchange there, is past the exchange.
use Prim.Native.Nat.{ℕ, suc, ◌≤◌}
use mathlib.Core.Path.{◌≡◌, refl, sym, ap, subst, ◌∙◌}
use mathlib.Core.List.Memᴰ
use mathlib.Core.List.{map, Memᴰ}
use mathlib.Core.Option.{none}
use native.Mathlib.Omega.{arith}
use lib.ListN.{length-map}
use Rattle.base.proofs.AtLaws.{none_some}
use Rattle.base.specs.Lists.{present}
use Rattle.base.proofs.Distinct.{included_length, distinct_map}
use Rattle.base.proofs.Passing.{passing, passing_has, passing_in, passing_distinct}
use Rattle.format.specs.Types.{retransmission}
use Rattle.replication.specs.Machine.Types.{Mode, Non_prim, Reg_prim, Trans_prim, Exchange_states, Exchange_actions, Construct, No, Un, Configuration}
use Rattle.replication.specs.Machine.Plan.{planned}
use Rattle.replication.specs.Runs.Run.{Run}
use Rattle.replication.specs.Runs.Happenings.{Message, is_message, Comes, Sends}
use Rattle.replication.proofs.Runs.Roomy.{Roomy as Allowed}
use Rattle.replication.proofs.Runs.Deliveries.{Delivery}
use Rattle.replication.proofs.Runs.Order.{delivered_once}
use Rattle.replication.proofs.Runs.StateOrigins.{Came}
use Rattle.replication.proofs.Runs.Progress.{progress_in, progress}
use Rattle.replication.proofs.Runs.Memberships.{planned_in}
use Rattle.replication.proofs.Runs.Stays.{membership_at}
use Rattle.replication.proofs.Agreement.Exchange.Stages.{stage, InCom}
use Rattle.replication.proofs.Agreement.Exchange.Collected.{states_in_lem}
use Rattle.replication.proofs.Agreement.Exchange.SameStates.{complete_same}
use Rattle.replication.proofs.Agreement.Exchange.Answers.{coming}
use Rattle.replication.proofs.Agreement.Exchange.Causality.{came_before, not_collecting}
use Rattle.replication.proofs.Agreement.Exchange.Retransmissions.{resent_at, resent_yes, resent_holds}
use Rattle.replication.proofs.Agreement.Exchange.Tally.{TallyOf, none_yet, counted, enough, interrupted, later_count, resent_count, tally}

module _ {n q : ℕ} {l : Run} (A : Allowed n q l) where
  -- The retransmissions that came to a server in com(c) are as many messages.
  pub messages_differ : (i : ℕ) (c : Configuration) (p x y : ℕ) → Memᴰ x (passing (resent_at n q l c i) p) → Memᴰ y (passing (resent_at n q l c i) p)
      → A.allowed.source x ≡ A.allowed.source y → x ≡ y
  unfolding is_message
  messages_differ i c p x y h k e =
      let u = resent_holds n q l c i x (passing_in (resent_at n q l c i) p x h).1 in
      let v = resent_holds n q l c i y (passing_in (resent_at n q l c i) p y k).1 in
      delivered_once A (coming A u.3 refl) (subst (λ z. Delivery A y i z) (sym e) (coming A v.3 refl))

  -- Those that had come to the sender of a message have come to whoever delivers it.
  pub resent_included : {m : Message} {k p i : ℕ} {c : Configuration} → Sends n q l k m c → Delivery A p i m
      → resent_count A k c (suc m.sending) ≤ resent_count A i c p
  unfolding is_message
  resent_included {m} {k} {p} {i} {c} s d =
      let z =
      included_length (map A.allowed.source (passing (resent_at n q l c k) (suc m.sending))) (map A.allowed.source (passing (resent_at n q l c i) p))
      (distinct_map A.allowed.source (passing (resent_at n q l c k) (suc m.sending)) (messages_differ k c (suc m.sending))
      (passing_distinct (resent_at n q l c k) (suc m.sending)))
      (λ y h. let x = Memᴰ.of_map A.allowed.source _ h in Memᴰ.cast (sym x.2) (one x.0 x.1))
      in
      omega (arith, z, length-map (passing (resent_at n q l c k) (suc m.sending)) A.allowed.source, length-map (passing (resent_at n q l c i) p) A.allowed.source)
    where
      one : (x : ℕ) → Memᴰ x (passing (resent_at n q l c k) (suc m.sending)) → Memᴰ (A.allowed.source x) (map A.allowed.source (passing (resent_at n q l c i) p))
      one x h =
          let e = passing_in (resent_at n q l c k) (suc m.sending) x h in
          let u = resent_holds n q l c k x e.1 in
          let w : Came A (suc m.sending) k c (retransmission u.0 u.1 u.2) =
          record { place = x; earlier = e.0; delivery = coming A u.3 refl; what = refl; here = u.4 }
          in
          let v = came_before A s w d in
          let y = v.0 in
          let f = resent_yes n q l c i y.place _ _ _ (subst (λ r. Comes n q l y.place i r) y.what y.delivery.comes) y.here in
          Memᴰ.cast (sym v.1) (Memᴰ.map A.allowed.source (passing_has (resent_at n q l c i) p y.place y.earlier f))

  -- An exchange that has ended had as many as planned.
  pub ended_count : (p i : ℕ) (c : Configuration) → InCom n q l p i c → 2 ≤ stage (membership_at n q l p i).mode
      → ((membership_at n q l p i).mode ≡ Non_prim → (membership_at n q l p i).transitional ≡ none) → planned_in n (membership_at n q l p i) ≤ resent_count A i c p
  unfolding stage
  ended_count p i c a h f = go (tally A i c p a)
    where
      go : TallyOf n (membership_at n q l p i) (resent_count A i c p) → planned_in n (membership_at n q l p i) ≤ resent_count A i c p
      go (none_yet e k) = absurd (omega (arith, ap stage e))
      go (counted e k) = absurd (omega (arith, ap stage e))
      go (enough k g) = g
      go (interrupted x e k) = none_some (sym (f e) ∙ k)

  pub past_exchange : {m : Message} {k p i : ℕ} {c : Configuration} → Sends n q l k m c → InCom n q l (suc m.sending) k c
      → 2 ≤ stage (membership_at n q l (suc m.sending) k).mode
      → ((membership_at n q l (suc m.sending) k).mode ≡ Non_prim → (membership_at n q l (suc m.sending) k).transitional ≡ none)
      → Delivery A p i m → InCom n q l p i c → 2 ≤ stage (membership_at n q l p i).mode
  unfolding stage
  past_exchange {m} {k} {p} {i} {c} s a h f d b = go (membership_at n q l p i).mode refl
    where
      receiving : (membership_at n q l p i).mode ≡ Exchange_actions → ⊥
      receiving e =
          let u = progress_in n _ Exchange_actions e (progress A i c p b) in
          let w = complete_same A p (suc m.sending) i k c b a u.all_in (states_in_lem A k c (suc m.sending) a (omega arith) f) in
          omega (
            arith,
            u.not_all_come,
            later_count e (tally A i c p b),
            resent_included s d,
            ended_count (suc m.sending) k c a h f,
            ap (λ z. planned n (present z)) w,
          )

      go : (o : Mode) → (membership_at n q l p i).mode ≡ o → 2 ≤ stage (membership_at n q l p i).mode
      go Non_prim e = omega (arith, ap stage e)
      go Reg_prim e = omega (arith, ap stage e)
      go Trans_prim e = omega (arith, ap stage e)
      go Exchange_states e = absurd (not_collecting A s a (states_in_lem A k c (suc m.sending) a (omega arith) f) d b e)
      go Exchange_actions e = absurd (receiving e)
      go Construct e = omega (arith, ap stage e)
      go No e = omega (arith, ap stage e)
      go Un e = omega (arith, ap stage e)
