-- Where a server stands in its stay in a configuration: in the exchange, past its end with a quorum or without one, or out of it by a transitional
-- configuration.
use Prim.Native.Nat.{ℕ, suc, ◌≤◌, ◌<◌}
use mathlib.Core.Path.{◌≡◌, refl, sym, ap, ◌∙◌}
use mathlib.Core.Bool.{true, false}
use mathlib.Core.Logic.{◌⊎◌, inl, inr}
use mathlib.Core.Option.{Option, none, some}
use native.Mathlib.Omega.{arith}
use Rattle.base.proofs.TestLaws.{not_both}
use Rattle.format.specs.Types.{Record}
use Rattle.replication.specs.Machine.Types.{Mode, Non_prim, Reg_prim, Trans_prim, Exchange_states, Exchange_actions, Construct, No, Un, Configuration, Membership, Server}
use Rattle.replication.specs.Machine.Exchange.{quorum}
use Rattle.replication.specs.Machine.Step.{the_set, here_set, collected, all_states_in}
use Rattle.replication.specs.Laws.Transitions as L
use Rattle.replication.specs.Laws.Transitions.{Ends, Leads}
use Rattle.replication.specs.Runs.Run.{Run}
use Rattle.replication.specs.Runs.Happenings.{Falls, Takes}
use Rattle.replication.proofs.Runs.Roomy.{Roomy as Allowed}
use Rattle.replication.proofs.Step.Formed.{every_state_in_lem}
use Rattle.replication.proofs.Runs.Modes.{Stands, standing}
use Rattle.replication.proofs.Runs.Numbers.{numbers, well_formed_at}
use Rattle.replication.proofs.Runs.AllowedTurns.{memory_at, Acts}
use Rattle.replication.proofs.Runs.Memberships as M
use Rattle.replication.proofs.Runs.Memberships.{Completes, MembershipStep}
use Rattle.replication.proofs.Runs.Progress.{stay_member}
use Rattle.replication.proofs.Runs.Stays.{membership_at, in_stay, entering_membership, stay_configuration, stay_transitional, StayStep, rested, refused, took, stay_step}
use Rattle.replication.proofs.Agreement.Terms.{EndsAt, MarksAt}
use Rattle.replication.proofs.Step.Apart.{mode_number, other_mode}
use Rattle.replication.proofs.Agreement.Exchange.Stages.{remains, stage, stage_rises, InCom, remaining}
use Rattle.replication.proofs.Agreement.Exchange.Endings.{ExchangeMove, goes_on_lem, is_left_lem, is_ended, exchange_move, ends_decide}

-- ---- one step

-- In an exchange a server has a regular configuration.
early_regular : (m : Mode) (c : Option Configuration) (t : Option ℕ) → stage m ≤ 1 → Stands m c t → t ≡ none
unfolding stage
early_regular Non_prim c t h s = absurd (omega arith)
early_regular Reg_prim c t h s = absurd (omega arith)
early_regular Trans_prim c t h s = absurd (omega arith)
early_regular Exchange_states c t h s = s.none_after
early_regular Exchange_actions c t h s = s.none_after
early_regular Construct c t h s = absurd (omega arith)
early_regular No c t h s = absurd (omega arith)
early_regular Un c t h s = absurd (omega arith)

leads_transitional : {X : Type 0} {m o : Mode} → Leads m o → m ≡ Non_prim → (o ≡ Non_prim → X) → X
unfolding mode_number
leads_transitional L.stays e f = f refl
leads_transitional L.parts e f = other_mode refl e (λ z. omega arith)
leads_transitional L.interrupts_states e f = other_mode refl e (λ z. omega arith)
leads_transitional L.interrupts_actions e f = other_mode refl e (λ z. omega arith)
leads_transitional L.interrupts_construct e f = other_mode refl e (λ z. omega arith)

completes_early : {X : Type 0} {n : ℕ} {m : Membership} {r : Record} {o : Membership} → Completes n m r o → m.mode ≡ Non_prim → X
unfolding mode_number
completes_early (M.by_state x e c d) h = other_mode h e (λ z. omega arith)
completes_early (M.by_retransmission k p a e c) h = other_mode h e (λ z. omega arith)

-- In Non_prim a stay goes on in Non_prim, and a transitional configuration remains.
abbrev Settles : Membership → Membership → Type 0
Settles m o = (o.mode ≡ Non_prim) × ((t : ℕ) → m.transitional ≡ some t → (x : ℕ) × (o.transitional ≡ some x))

pub settled_step : {n : ℕ} {m : Membership} {r : Record} {o : Membership} → MembershipStep n m r o → remains r ≡ true → m.mode ≡ Non_prim → Settles m o
unfolding remains mode_number
settled_step (M.ignores r e f) h i = (i, λ t u. (t, u))
settled_step (M.acts a o e t) h i = (i, λ t u. (t, u))
settled_step (M.asks p) h i = (i, λ t u. (t, u))
settled_step (M.collects x e c) h i = other_mode i e (λ z. omega arith)
settled_step (M.resends x e c d) h i = other_mode i e (λ z. omega arith)
settled_step (M.counts k p a e c) h i = other_mode i e (λ z. omega arith)
settled_step (M.attempts r o c q) h i = completes_early c i
settled_step (M.settles r o c q) h i = completes_early c i
settled_step (M.counts_cpc k j e c) h i = other_mode i e (λ z. omega arith)
settled_step (M.installs k j e c) h i = other_mode i e (λ z. omega arith)
settled_step (M.counts_late_cpc k j e c) h i = other_mode i e (λ z. omega arith)
settled_step (M.counts_last_cpc k j e c) h i = other_mode i e (λ z. omega arith)
settled_step (M.installs_late a e) h i = other_mode i e (λ z. omega arith)
settled_step (M.joins c o e j) h i = not_both h
settled_step (M.leaves o u x e y) h i = leads_transitional y (sym e ∙ i) (λ z. (z, λ t u. (x, refl)))
settled_step M.recovers h i = not_both h

-- ---- a stay

module _ (n q : ℕ) (l : Run) (p i : ℕ) (c : Configuration) where
  -- Where the server i, in com(c), stands at p.
  pub data Phase : Type 0 where
    exchanging : stage (membership_at n q l p i).mode ≤ 1 → Phase
    marked : (r : ℕ) → r < p → MarksAt n q l r i c → 3 ≤ stage (membership_at n q l p i).mode → Phase
    settled : (r : ℕ) → r < p → (x : EndsAt n q l r i c) → quorum (collected x.judged) c.set ≡ false → (membership_at n q l p i).mode ≡ Non_prim → Phase
    interrupted : (x : ℕ) → (membership_at n q l p i).mode ≡ Non_prim → (membership_at n q l p i).transitional ≡ some x → Phase

module _ {n q : ℕ} {l : Run} (A : Allowed n q l) (i : ℕ) (c : Configuration) where
  -- The end of an exchange, from the event that brings it.
  ending : (p : ℕ) → InCom n q l p i c → stage (membership_at n q l p i).mode ≤ 1 → (x : Acts n q l p i) (judged : Server)
      → Ends judged x.after x.by.records → x.stores ≡ true → judged.me ≡ (memory_at n q l p i).me → judged.votes ≡ (memory_at n q l p i).votes
      → judged.membership.configuration ≡ (membership_at n q l p i).configuration
      → all_states_in judged ≡ true → EndsAt n q l p i c
  ending p a h x j e b m v d s =
      let t = early_regular _ _ _ h (standing n q l i p).memory in
      let u = sym (stay_transitional A p i c a) ∙ t in
      record {
        acts = x;
        judged = j;
        ends = e;
        stores = b;
        here = λ k. record { regular = a k; transitional = u k };
        of_me = m ∙ (numbers n q i l p).memory.me;
        votes = v;
        configuration = d ∙ stay_configuration A p i c a;
        complete = s;
      }

  decides : (p : ℕ) (x : EndsAt n q l p i c) → Phase n q l (suc p) i c
  unfolding stage here_set the_set
  decides p x = go (ends_decide x.ends)
    where
      h : here_set x.judged ≡ c.set
      h = ap the_set x.configuration

      next : (membership_at n q l (suc p) i).mode ≡ x.acts.after.membership.mode
      next = ap (λ s. s.membership.mode) x.acts.memory_next

      go : ((quorum (collected x.judged) (here_set x.judged) ≡ true) × (x.acts.after.membership.mode ≡ Construct))
          ⊎ ((quorum (collected x.judged) (here_set x.judged) ≡ false) × (x.acts.after.membership.mode ≡ Non_prim))
          → Phase n q l (suc p) i c
      go (inl y) =
          marked p (omega arith) (record { ending = x; has_quorum = ap (quorum (collected x.judged)) (sym h) ∙ y.0 })
          (omega (arith, ap stage (next ∙ y.1)))
      go (inr y) = settled p (omega arith) x (ap (quorum (collected x.judged)) (sym h) ∙ y.0) (next ∙ y.1)

  pub phase : (p : ℕ) → InCom n q l p i c → Phase n q l p i c
  unfolding stage
  phase =
      in_stay n q l i c (λ p. Phase n q l p i c) (λ t h. exchanging (omega (arith, ap (λ m. stage m.mode) (entering_membership A t i c h))))
      (λ p a b f g h. go p a (stay_step A p i f) g f h)
    where
      same : (p : ℕ) → membership_at n q l (suc p) i ≡ membership_at n q l p i → Phase n q l p i c → Phase n q l (suc p) i c
      same p m (exchanging h) = exchanging (omega (arith, ap (λ o. stage o.mode) m))
      same p m (marked r u x h) = marked r (omega arith) x (omega (arith, ap (λ o. stage o.mode) m))
      same p m (settled r u x w h) = settled r (omega arith) x w (ap (λ o. o.mode) m ∙ h)
      same p m (interrupted x h w) = interrupted x (ap (λ o. o.mode) m ∙ h) (ap (λ o. o.transitional) m ∙ w)

      moving : (p : ℕ) → InCom n q l p i c → stage (membership_at n q l p i).mode ≤ 1 → (x : Acts n q l p i)
          → ExchangeMove (memory_at n q l p i) x.after x.by.records x.stores → Phase n q l (suc p) i c
      moving p a h x (goes_on_lem k) = exchanging (omega (arith, ap (λ s. stage s.membership.mode) x.memory_next))
      moving p a h x (is_left_lem t k w) =
          interrupted t (ap (λ s. s.membership.mode) x.memory_next ∙ k) (ap (λ s. s.membership.transitional) x.memory_next ∙ w)
      moving p a h x (is_ended j e b m v d s) = decides p (ending p a h x j e b m v d s)

      going : (p : ℕ) → InCom n q l p i c → (x : Acts n q l p i) → remains x.by.event ≡ true
          → MembershipStep n (membership_at n q l p i) x.by.event (membership_at n q l (suc p) i) → Phase n q l p i c → Phase n q l (suc p) i c
      going p a x k m (exchanging h) =
          moving p a h x
          (exchange_move (memory_at n q l p i) h (every_state_in_lem _ (well_formed_at n q i A.allowed.sizes (stay_member A i p c a).0 l p).memory) k x.moves)
      going p a x k m (marked r u y h) = marked r (omega arith) y (omega (arith, stage_rises m k))
      going p a x k m (settled r u y w h) = settled r (omega arith) y w (settled_step m k h).0
      going p a x k m (interrupted t h w) = let z = settled_step m k h in let v = z.1 t w in interrupted v.0 z.0 v.1

      go : (p : ℕ) → InCom n q l p i c → StayStep A p i → ((d : Configuration) → Takes n q l p i d → ⊥) → (Falls n q l p i → ⊥) → Phase n q l p i c
          → Phase n q l (suc p) i c
      go p a (rested m) g f h = same p m h
      go p a (refused y m) g f h = same p m h
      go p a (took x z m) g f h = going p a x (remaining g f _ z) m h
