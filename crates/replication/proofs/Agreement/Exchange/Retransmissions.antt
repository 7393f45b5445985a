-- Retransmissions in one configuration: each server sends its part of the plan once, with all States in; in Exchange_actions those that come are taken.
use Rattle.replication.proofs.Step.WhiteKept.{white_kept}
use Prim.Native.Nat.{ℕ, suc, ◌≤◌, ◌<◌}
use mathlib.Core.Path.{◌≡◌, refl, sym, ap, subst, ◌∙◌}
use mathlib.Core.Bool.{Bool, true, false, not}
use mathlib.Core.List.{List}
use mathlib.Core.Option.{Option, none, some}
use native.Mathlib.Omega.{arith}
use lib.ListN.{length}
use Rattle.base.specs.Tests.{◌and◌, ◌or◌, ◌=?◌}
use Rattle.base.proofs.TestLaws.{not_both, eq_holds, eq_yes, le_yes, and_holds, both_yes}
use Rattle.base.proofs.AtLaws.{at_low}
use Rattle.base.specs.Lists.{at}
use Rattle.base.specs.Sets.{in_set}
use Rattle.format.specs.Types.{Action, Record, action, retransmission, state, cpc, regular, transitional, request, recovery, Reading, says, refused}
use Rattle.replication.specs.Machine.Types.{Exchange_states, Exchange_actions, Configuration, with_white}
use Rattle.replication.specs.Machine.Plan.{own_part}
use Rattle.replication.specs.Machine.Rules.{exchanging, on_retransmission, rule_for, numbered_own, possible, from_member, is_ignored}
use Rattle.replication.specs.Machine.Step.{here_set, collected, all_states_in}
use Rattle.replication.proofs.WellFormed.SentFacts.{sender_of}
use Rattle.replication.specs.Runs.Run.{Entry, event, crash, store, Run, place_at, heard_at}
use Rattle.replication.specs.Runs.Happenings.{Message, is_message, Comes, Sends}
use Rattle.replication.proofs.Runs.Roomy.{Roomy as Allowed}
use Rattle.replication.proofs.Runs.DeliveryFacts.{within}
use Rattle.replication.proofs.Step.Kinds.{part_sent}
use Rattle.replication.proofs.Runs.Deliveries.{Delivery}
use Rattle.replication.proofs.Runs.DeliveryLists.{within_holds, within_yes}
use Rattle.replication.proofs.Runs.Numbers.{numbers}
use Rattle.replication.proofs.Runs.AllowedTurns.{memory_at, Acts}
use Rattle.replication.proofs.Runs.ControlPart.{numbered_between}
use Rattle.replication.proofs.Runs.Sending.{Puts}
use Rattle.replication.proofs.Runs.StateOrigins.{puts_among, puts_by}
use Rattle.replication.proofs.Runs.Made.{Made, delivered_made}
use Rattle.replication.proofs.Runs.Memberships.{states_in_of, every_state_in}
use Rattle.replication.proofs.Runs.Stays.{membership_at}
use Rattle.replication.proofs.Agreement.Exchange.Stages.{stage, InCom, rises_once, had_before}
use Rattle.replication.proofs.Agreement.Exchange.Messages.{sent_in_lem}
use Rattle.replication.proofs.Agreement.Exchange.Answers.{coming, TakenAt, taken-by-rule, member-here}
use Rattle.replication.proofs.Agreement.Exchange.Causality.{not_collecting}

-- ---- at which places retransmissions come

unfoldable pub says_resent : Reading Record → Bool
says_resent (says (action a)) = false
says_resent (says (retransmission k p a)) = true
says_resent (says (state x)) = false
says_resent (says (cpc k i)) = false
says_resent (says (regular i s)) = false
says_resent (says (transitional s)) = false
says_resent (says (request p)) = false
says_resent (says recovery) = false
says_resent (refused k) = false

pub says_resent_lem : (x : Reading Record) → says_resent x ≡ true → (k p : ℕ) × (a : Action) × (x ≡ says (retransmission k p a))
unfolding says_resent
says_resent_lem (says (action a)) h = not_both h
says_resent_lem (says (retransmission k p a)) h = (k, p, a, refl)
says_resent_lem (says (state x)) h = not_both h
says_resent_lem (says (cpc k i)) h = not_both h
says_resent_lem (says (regular i s)) h = not_both h
says_resent_lem (says (transitional s)) h = not_both h
says_resent_lem (says (request p)) h = not_both h
says_resent_lem (says recovery) h = not_both h
says_resent_lem (refused k) h = not_both h

module _ (n q : ℕ) (l : Run) (c : Configuration) (i : ℕ) where
  unfoldable pub resent_by : ℕ → Option Entry → Bool
  resent_by p none = false
  resent_by p (some (crash j)) = false
  resent_by p (some (store j)) = false
  resent_by p (some (event j e k)) = j =? i and says_resent (heard_at n q l p i e) and within c (place_at n q l i p)

  -- At p a retransmission comes to the server i in com(c).
  unfoldable pub resent_at : ℕ → Bool
  resent_at p = resent_by p (at l p)

  pub resent_yes : (p k x : ℕ) (a : Action) → Comes n q l p i (retransmission k x a) → InCom n q l p i c → resent_at p ≡ true
  unfolding resent_at resent_by says_resent
  resent_yes p k x a y h =
      ap (resent_by p) y.here ∙ both_yes _ _ (eq_yes i i refl) (both_yes _ _ (ap says_resent y.heard) (within_yes c (place_at n q l i p) h))

  pub resent_holds : (p : ℕ) → resent_at p ≡ true → (k x : ℕ) × (a : Action) × Comes n q l p i (retransmission k x a) × InCom n q l p i c
  unfolding resent_at resent_by
  resent_holds p h = go (at l p) refl h
    where
      go : (x : Option Entry) → at l p ≡ x → resent_by p x ≡ true → (k x : ℕ) × (a : Action) × Comes n q l p i (retransmission k x a) × InCom n q l p i c
      go none e h = not_both h
      go (some (crash j)) e h = not_both h
      go (some (store j)) e h = not_both h
      go (some (event j f k)) e h =
          let x = and_holds _ _ h in
          let y = and_holds _ _ x.1 in
          let z = says_resent_lem _ y.0 in
          let s : j ≡ i = eq_holds _ _ x.0 in
          (z.0, z.1, z.2, record { bytes = f; sent = k; here = subst (λ w. at l p ≡ some (event w f k)) s e; heard = z.3 }, within_holds c _ y.1)

-- ---- the messages

not_fails : (t : Bool) → not t ≡ false → t ≡ true
not_fails true e = refl
not_fails false e = not_both (sym e)

or_either : (t u : Bool) → (t ≡ false → u ≡ true) → (t or u) ≡ true
unfolding ◌or◌
or_either true u f = refl
or_either false u f = f refl

module _ {n q : ℕ} {l : Run} (A : Allowed n q l) where
  -- The record number j that the server k puts out at v, in c, is of its part of the plan.
  pub record PartPut (v k j : ℕ) (c : Configuration) : Type 0 where
    pub before : InCom n q l v k c
    pub after : InCom n q l (suc v) k c
    pub collecting : (membership_at n q l v k).mode ≡ Exchange_states
    pub resending : (membership_at n q l (suc v) k).mode ≡ Exchange_actions
    pub complete : every_state_in (membership_at n q l (suc v) k) ≡ true
    pub below_length : j < length (own_part n k (memory_at n q l v k).white (memory_at n q l (suc v) k).log (states_in_of (membership_at n q l (suc v) k)))

  -- The part of the plan that the server k put out at v, as the States that it had collected say: of what was not white before.
  abbrev pub part_of : ℕ → ℕ → List Record
  part_of v k = own_part n k (memory_at n q l v k).white (memory_at n q l (suc v) k).log (states_in_of (membership_at n q l (suc v) k))

  pub part_of_lem : (v k : ℕ) (x : Acts n q l v k) → own_part x.after.servers x.after.me x.after.white x.after.log (collected x.after) ≡ part_of v k
  unfolding collected
  part_of_lem v k x =
      let o = (numbers n q k l (suc v)).memory in
      let e : with_white x.white x.after ≡ memory_at n q l (suc v) k = sym x.memory_next in
      let w : x.after.white ≡ (memory_at n q l v k).white = white_kept x.moves in
      ap (λ s. own_part s.servers s.me x.after.white s.log (states_in_of s.membership)) e
      ∙ (λ z. own_part (o.servers z) (o.me z) (w z) (memory_at n q l (suc v) k).log (states_in_of (membership_at n q l (suc v) k)))

  part_put : {v k j x y : ℕ} {a : Action} {c : Configuration} → Puts A v k j c (retransmission x y a) → PartPut v k j c
  unfolding stage all_states_in here_set collected
  part_put {v} {k} {j} {x} {y} {a} {c} u =
      let w = part_sent (puts_by A u) x y a (puts_among A u) in
      let z = ap (λ o. o.regular) u.in_regular_lem in
      let t = subst (λ s. s.membership.mode ≡ Exchange_actions) (sym u.act.memory_next) w.to in
      record {
        before = had_before A k c v z (omega (arith, ap stage t));
        after = z;
        collecting = w.from;
        resending = t;
        complete = subst (λ s. every_state_in s.membership ≡ true) (sym u.act.memory_next) w.complete;
        below_length =
            subst (λ rs. j < length rs) (part_of_lem v k u.act)
            (subst (λ rs. j < length rs) w.whole (at_low u.act.by.records j _ u.record-there));
      }

  -- The message m is of the part of the plan that the server k sent in c.
  pub record PartMessage (m : Message) (k : ℕ) (c : Configuration) : Type 0 where
    pub sends : Sends n q l k m c
    pub member : in_set k c.set ≡ true
    pub put : PartPut m.sending k m.number c

  pub part_message : {p i k x : ℕ} {a : Action} {m : Message} {c : Configuration} (d : Delivery A p i m) → d.what ≡ retransmission k x a → InCom n q l p i c
      → PartMessage m k c
  unfolding sender_of
  part_message {k = k} {c = c} d e b = let u = sent_in_lem A k c d e refl b in record { sends = u.sends; member = u.member; put = part_put u.puts }

  -- A server sends its part of the plan at one place.
  pub one_place : {m m' : Message} {k : ℕ} {c : Configuration} → PartMessage m k c → PartMessage m' k c → m.sending ≡ m'.sending
  unfolding stage
  one_place {m} {m'} {k} {c} u v =
      rises_once A k c 0 m.sending m'.sending u.put.before u.put.after v.put.before v.put.after
      (omega (arith, ap stage u.put.collecting)) (omega (arith, ap stage u.put.resending))
      (omega (arith, ap stage v.put.collecting)) (omega (arith, ap stage v.put.resending))

  -- ---- retransmissions that come

  -- An own action that was made is numbered.
  pub made_numbered : (p i : ℕ) (a : Action) → Made A p a → numbered_own (memory_at n q l p i) a ≡ true
  unfolding numbered_own
  made_numbered p i a x = or_either _ _ (λ f. le_yes _ _ (low (not_fails _ f)))
    where
      low : (a.id.creator =? (memory_at n q l p i).me) ≡ true → a.id.index ≤ (memory_at n q l p i).log.numbered
      low h =
          let e : x.server ≡ i =
          sym (x.own.creator ∙ (numbers n q x.server l x.place).memory.me) ∙ eq_holds _ _ h ∙ (numbers n q i l p).memory.me
          in
          subst (λ k. a.id.index ≤ (memory_at n q l p k).log.numbered) e
          (omega (arith, x.own.within, numbered_between A x.server (suc x.place) p x.earlier))

  module _ (p i : ℕ) (k x : ℕ) (a : Action) (come : Comes n q l p i (retransmission k x a)) (c : Configuration) (here : InCom n q l p i c) where
    message : PartMessage (A.allowed.source p) k c
    unfolding is_message
    message = part_message (coming A come refl) refl here

    pub resent_possible : possible (memory_at n q l p i) (retransmission k x a) ≡ true
    unfolding is_message possible
    resent_possible = made_numbered p i a (delivered_made A (coming A come refl)).0

    -- Its sender had all States, so the server is not in Exchange_states.
    pub resent_late : (membership_at n q l p i).mode ≡ Exchange_states → ⊥
    unfolding is_message
    resent_late e = not_collecting A message.sends message.put.after message.put.complete (coming A come refl) here e

    -- In Exchange_actions it is taken.
    pub resent_taken : (membership_at n q l p i).mode ≡ Exchange_actions → TakenAt n q l p i (retransmission k x a)
    unfolding is_message rule_for on_retransmission is_ignored from_member ◌or◌
    resent_taken e =
        taken-by-rule A p i come refl (exchanging x a) (ap (λ m. on_retransmission m x a) e) resent_possible (member-here A p i c here k message.member)
