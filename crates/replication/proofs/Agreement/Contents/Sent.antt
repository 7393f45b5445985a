-- What a member of a configuration resends there: its part of the plan, from what it held when it took the configuration.
use Prim.Native.Nat.{ℕ, suc, ◌≤◌, ◌<◌}
use mathlib.Core.Path.{◌≡◌, refl, sym, ap, subst, ◌∙◌}
use mathlib.Core.Bool.{Bool, true}
use mathlib.Core.List.{List}
use mathlib.Core.Option.{some}
use native.Mathlib.Omega.{arith}
use Rattle.base.specs.Lists.{at}
use Rattle.format.specs.Types.{State, Record}
use Rattle.replication.specs.Machine.Types.{Mode, Exchange_states, Exchange_actions, Configuration, Log, Server}
use Rattle.replication.specs.Machine.Plan.{own_part}
use Rattle.replication.specs.Machine.Requests.{sends_now, recovered, numbered, send_waiting}
use Rattle.replication.specs.Machine.Step.{collected, here_set, the_set, all_states_in, with_state, resending, leave, entering}
use Rattle.replication.specs.Laws.Transitions as L
use Rattle.replication.specs.Laws.Transitions.{Leads, Transition}
use Rattle.replication.specs.Laws.Order.{SameHeld}
use Rattle.replication.specs.Runs.Run.{Run}
use Rattle.replication.specs.Runs.Happenings.{Message, Sends, Falls, Takes, in_order}
use Rattle.replication.proofs.Runs.Roomy.{Roomy as Allowed}
use Rattle.replication.proofs.Runs.Places.{of_one}
use Rattle.replication.proofs.Runs.Entries.{had}
use Rattle.replication.proofs.Runs.Deliveries.{Delivery, delivered_where_sent}
use Rattle.replication.proofs.Runs.Origins.{origin}
use Rattle.replication.proofs.Runs.Sending.{Puts}
use Rattle.replication.proofs.Runs.AllowedTurns.{memory_at, Acts}
use Rattle.replication.proofs.Runs.Stays.{membership_at, in_stay, acts_membership}
use Rattle.replication.proofs.Step.SameHeld.{held_same, held_trans}
use Rattle.replication.proofs.Step.Apart.{mode_number, other_mode, sends_in_lem}
use Rattle.replication.proofs.Agreement.Exchange.Stages.{stage, InCom, remaining, stage_rises}
use Rattle.replication.proofs.Agreement.Exchange.Retransmissions.{part_of, part_of_lem, PartPut, PartMessage}
use Rattle.replication.proofs.Agreement.Contents.Whole.{whole_green, whole_red, whole_part}
use Rattle.replication.proofs.Agreement.Contents.Logs.{LogMove, keeps, places, ends_log, MemoryStep, still, moved, memory_step, acting, acts_log}

leads_no_actions : {X : Type 0} {m o : Mode} → Leads m o → o ≡ Exchange_actions → X
unfolding mode_number
leads_no_actions L.stays e = other_mode refl e (λ z. omega arith)
leads_no_actions L.parts e = other_mode refl e (λ z. omega arith)
leads_no_actions L.interrupts_states e = other_mode refl e (λ z. omega arith)
leads_no_actions L.interrupts_actions e = other_mode refl e (λ z. omega arith)
leads_no_actions L.interrupts_construct e = other_mode refl e (λ z. omega arith)

-- One's part of the plan is of what is held.
pub part_same : (n k : ℕ) (l m : Log) (xs : List State) → SameHeld l m → whole_part n k m xs ≡ whole_part n k l xs
unfolding whole_part whole_green whole_red
part_same n k l m xs s = rw (s.green, s.red)

-- From Exchange_states to Exchange_actions one's part of the plan is put out, every member's State being in.
pub record EntersActions (s t : Server) (rs : List Record) : Type 0 where
  pub part : rs ≡ own_part t.servers t.me t.white t.log (collected t)
  pub complete : all_states_in t ≡ true
  pub here : t.membership.configuration ≡ s.membership.configuration

pub enters_actions : {s : Server} {r : Record} {t : Server} {rs : List Record} {b : Bool} → Transition s r t rs b → s.membership.mode ≡ Exchange_states
    → t.membership.mode ≡ Exchange_actions → EntersActions s t rs
unfolding all_states_in here_set the_set with_state resending numbered recovered leave entering mode_number stage collected sends_now send_waiting
enters_actions (L.ignores_state x e) h k = other_mode h e (λ z. omega arith)
enters_actions (L.ignores_cpc y i e) h k = other_mode h e (λ z. omega arith)
enters_actions (L.reddens a e) h k = other_mode h e (λ z. omega arith)
enters_actions (L.reddens_resent y p a e) h k = other_mode h e (λ z. omega arith)
enters_actions (L.reddens_in_exchange a e) h k = other_mode h k (λ z. omega arith)
enters_actions (L.greens a e) h k = other_mode h e (λ z. omega arith)
enters_actions (L.yellows a e) h k = other_mode h e (λ z. omega arith)
enters_actions (L.installs_late a e) h k = other_mode h e (λ z. omega arith)
enters_actions (L.exchanges y p a e c) h k = other_mode h e (λ z. omega arith)
enters_actions (L.exchanges_last y p a t rs e c x) h k = other_mode h e (λ z. omega arith)
enters_actions (L.collects x e c) h k = other_mode h k (λ z. omega arith)
enters_actions (L.collects_last x e c d) h k = record { part = refl; complete = c; here = refl }
enters_actions (L.collects_whole x t rs e c d y) h k = absurd (omega (arith, (ends_log y).1, ap stage k))
enters_actions (L.counts y i e c) h k = other_mode h e (λ z. omega arith)
enters_actions (L.installs y i e c) h k = other_mode h e (λ z. omega arith)
enters_actions (L.counts_late y i e c) h k = other_mode h e (λ z. omega arith)
enters_actions (L.counts_all_late y i e c) h k = other_mode h e (λ z. omega arith)
enters_actions (L.joins c e) h k = other_mode h e (λ z. omega arith)
enters_actions (L.joins_marked c e) h k = other_mode h e (λ z. omega arith)
enters_actions (L.joins_unmarked c e) h k = other_mode h e (λ z. omega arith)
enters_actions (L.joins_yellow c e) h k = other_mode h e (λ z. omega arith)
enters_actions (L.leaves m o x e y) h k = leads_no_actions y k
enters_actions (L.sends p c) h k = sends_in_lem _ _ c (λ e. other_mode h e (λ z. omega arith)) (λ e. other_mode h e (λ z. omega arith))
enters_actions (L.numbers p c) h k = other_mode h k (λ z. omega arith)
enters_actions L.recovers h k = other_mode refl k (λ z. omega arith)

module _ {n q : ℕ} {l : Run} (A : Allowed n q l) where
  -- Within a stay comes no regular configuration and no fall.
  pub inside_stay : {p i : ℕ} {c : Configuration} → InCom n q l p i c → InCom n q l (suc p) i c
      → ((d : Configuration) → Takes n q l p i d → ⊥) × (Falls n q l p i → ⊥)
  inside_stay {p} {i} {c} a b =
      let x = had n q l p i c a in
      let y = had n q l (suc p) i c b in
      let s = A.allowed.once x.took_at y.took_at i c x.took y.took in
      (λ d. y.alone p d (omega (arith, x.earlier)) (omega arith), y.steady p (omega (arith, x.earlier)) (omega arith))

  module _ {i e : ℕ} {c : Configuration} (took : Takes n q l e i c) where
    -- In Exchange_states a server holds what it held when it took the configuration.
    pub collecting_log : (p : ℕ) → InCom n q l p i c → (membership_at n q l p i).mode ≡ Exchange_states
        → SameHeld (memory_at n q l (suc e) i).log (memory_at n q l p i).log
    unfolding stage
    collecting_log p here h =
        in_stay n q l i c (λ y. stage (membership_at n q l y i).mode ≤ 0 → SameHeld (memory_at n q l (suc e) i).log (memory_at n q l y i).log)
        (λ t w k. held_same _ _ (ap (λ z. (memory_at n q l (suc z) i).log) (A.allowed.once t e i c w took))) (λ y a b f g k w. step y a f g k w (memory_step A y i f)) p here
        (omega (arith, ap stage h))
      where
        step : (y : ℕ) → InCom n q l y i c → (Falls n q l y i → ⊥) → ((d : Configuration) → Takes n q l y i d → ⊥)
            → (stage (membership_at n q l y i).mode ≤ 0 → SameHeld (memory_at n q l (suc e) i).log (memory_at n q l y i).log)
            → stage (membership_at n q l (suc y) i).mode ≤ 0 → MemoryStep A y i → SameHeld (memory_at n q l (suc e) i).log (memory_at n q l (suc y) i).log
        step y a f g k w (still m o) =
            held_trans _ _ _ (k (omega (arith, ap (λ s. stage s.membership.mode) m))) (held_same _ _ (ap (λ s. s.log) m))
        step y a f g k w (moved x) =
            let r = stage_rises (acts_membership A y i x) (remaining g f x.by.event (acting A x)) in
            go (omega (arith, r)) (acts_log A a (omega (arith, r)) g f x)
          where
            go : stage (membership_at n q l y i).mode ≤ 0 → LogMove (memory_at n q l y i) x.by.event x.after
                → SameHeld (memory_at n q l (suc e) i).log (memory_at n q l (suc y) i).log
            go z (keeps u s) = held_trans _ _ _ (held_trans _ _ _ (k z) s) (held_same _ _ (ap (λ s. s.log) x.memory_next))
            go z (places u v b o m s) = absurd (omega (arith, ap stage m))

    -- .. and with that it goes to Exchange_actions.
    pub resending_log : (p : ℕ) → InCom n q l p i c → InCom n q l (suc p) i c → (membership_at n q l p i).mode ≡ Exchange_states
        → (membership_at n q l (suc p) i).mode ≡ Exchange_actions → SameHeld (memory_at n q l (suc e) i).log (memory_at n q l (suc p) i).log
    unfolding stage
    resending_log p a b h k = go (memory_step A p i w.1)
      where
        w : ((d : Configuration) → Takes n q l p i d → ⊥) × (Falls n q l p i → ⊥)
        w = inside_stay a b

        by_event : (x : Acts n q l p i) → LogMove (memory_at n q l p i) x.by.event x.after
            → SameHeld (memory_at n q l (suc e) i).log (memory_at n q l (suc p) i).log
        by_event x (keeps u s) = held_trans _ _ _ (held_trans _ _ _ (collecting_log p a h) s) (held_same _ _ (ap (λ s. s.log) x.memory_next))
        by_event x (places u v y o m s) = absurd (omega (arith, ap stage m, ap stage h))

        go : MemoryStep A p i → SameHeld (memory_at n q l (suc e) i).log (memory_at n q l (suc p) i).log
        go (still m o) = held_trans _ _ _ (collecting_log p a h) (held_same _ _ (ap (λ s. s.log) m))
        go (moved x) = by_event x (acts_log A a (omega (arith, ap stage h)) w.0 w.1 x)

  -- What a delivery says of a message of the part of the plan that the server k sent.
  pub part_delivered : {x i k : ℕ} {m : Message} {c : Configuration} → PartMessage A m k c → (d : Delivery A x i m)
      → at (part_of A m.sending k) m.number ≡ some d.what
  unfolding collected
  part_delivered {x} {i} {k} {m} {c} u d =
      let o = origin A d in
      let y : Puts A m.sending k m.number o.configuration d.what =
      subst (λ j. Puts A m.sending j m.number o.configuration d.what) (of_one o.sends.mine u.sends.mine) o.puts
      in
      let r =
      enters_actions y.act.moves u.put.collecting
      (subst (λ s. s.membership.mode ≡ Exchange_actions) y.act.memory_next u.put.resending)
      in
      ap (λ z. at z m.number) (sym (r.part ∙ part_of_lem A m.sending k y.act)) ∙ y.record-there

  -- Those that the server put out before it came before it.
  pub part_before : {x i k : ℕ} {m : Message} {c : Configuration} → PartMessage A m k c → Delivery A x i m → (u : ℕ) → u < m.number
      → (y : ℕ) × (y < x) × Delivery A y i (record { sending = m.sending; number = u })
      × PartMessage A (record { sending = m.sending; number = u }) k c × InCom n q l y i c
  part_before {x} {i} {k} {m} {c} s d u h =
      let m' : Message = record { sending = m.sending; number = u } in
      let w : Sends n q l k m' c = record { mine = s.sends.mine; out = omega (arith, s.sends.out); under = s.sends.under } in
      let y = A.allowed.causal x k k i m' m c w s.sends (in_order m' m refl h s.sends.out) d in
      let z : PartPut A m.sending k u c =
      record {
        before = s.put.before;
        after = s.put.after;
        collecting = s.put.collecting;
        resending = s.put.resending;
        complete = s.put.complete;
        below_length = omega (arith, s.put.below_length);
      }
      in
      (y.0, y.2, y.1, record { sends = w; member = s.member; put = z }, delivered_where_sent A y.1 w)
