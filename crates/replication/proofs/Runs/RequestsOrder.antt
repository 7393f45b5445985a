-- The actions that one event puts out are in order, and up to which index own actions were sent never falls.
use Prim.Native.Nat.{ℕ, zero, suc, ◌+◌, ◌≤◌, ◌<◌}
use mathlib.Core.Path.{◌≡◌, sym, ap, subst}
use mathlib.Core.Bool.{Bool}
use mathlib.Core.List.{List, [], ◌∷◌, map}
use mathlib.Core.Option.{some}
use native.Mathlib.Omega.{arith}
use Rattle.base.specs.Tests.{◌<?◌}
use Rattle.base.specs.Lists.{after, above, filter, at}
use Rattle.base.proofs.TestLaws.{not_both, Known, holds, fails, known}
use Rattle.base.proofs.AtLaws.{none_some, at_among, at_single, at_map}
use Rattle.base.proofs.Filters.{filter_yes, filter_no}
use Rattle.format.specs.Types.{Action, Record, action}
use Rattle.replication.specs.Machine.Types.{Server}
use Rattle.replication.specs.Machine.Requests.{unsent}
use Rattle.replication.specs.Machine.WellFormed.{ids_in}
use Rattle.replication.specs.Laws.Sending as P
use Rattle.replication.specs.Laws.Sending.{SendsWaiting, PutsOut}
use Rattle.replication.proofs.Step.OwnActions.{own_sent}
use Rattle.replication.proofs.WellFormed.Clauses.{OwnListFits}

-- ---- what waits is in order

-- The indexes rise, from above k on.
abbrev Rise : ℕ → List Action → Type 0
Rise k [] = Unit {0}
Rise k (a ∷ xs) = (k < a.id.index) × Rise a.id.index xs

rise_lower : (j k : ℕ) (xs : List Action) → j ≤ k → Rise k xs → Rise j xs
rise_lower j k [] h r = tt
rise_lower j k (a ∷ xs) h r = (omega (arith, r.0), r.1)

ids_rise : (me k m : ℕ) (xs : List Action) → ids_in xs ≡ map (λ i. record { creator = me; index = i }) (after k m) → Rise k xs
unfolding after ids_in
ids_rise me k m [] e = tt
ids_rise me k zero (x ∷ xs) e = let z : ◌≡◌ {A = ℕ} 0 1 = cc in absurd (omega arith)
ids_rise me k (suc m) (x ∷ xs) e =
    let f : x.id ≡ record { creator = me; index = k + 1 } = cc in
    let g : map (λ y. y.id) xs ≡ map (λ i. record { creator = me; index = i }) (after (k + 1) m) = cc in
    let h : x.id.index ≡ k + 1 = ap (λ d. d.index) f in
    (omega arith, rw h (ids_rise me (k + 1) m xs g))

rise_filter : (t : Action → Bool) (k : ℕ) (xs : List Action) → Rise k xs → Rise k (filter t xs)
unfolding filter
rise_filter t k [] r = tt
rise_filter t k (a ∷ xs) r = go (known (t a)) (rise_filter t a.id.index xs r.1)
  where
    go : Known (t a) → Rise a.id.index (filter t xs) → Rise k (filter t (a ∷ xs))
    go (holds e) h = subst (Rise k) (sym (filter_yes t a xs e)) (r.0, h)
    go (fails e) h = subst (Rise k) (sym (filter_no t a xs e)) (rise_lower k a.id.index (filter t xs) (omega (arith, r.0)) h)

rise_above : (k : ℕ) (xs : List Action) (j : ℕ) (a : Action) → Rise k xs → at xs j ≡ some a → k < a.id.index
unfolding at
rise_above k [] j a r e = none_some e
rise_above k (x ∷ xs) zero a r e = let f : x ≡ a = cc in omega (arith, r.0, ap (λ y. y.id.index) f)
rise_above k (x ∷ xs) (suc j) a r e = omega (arith, r.0, rise_above x.id.index xs j a r.1 e)

rise_order : (k : ℕ) (xs : List Action) (i j : ℕ) (a b : Action) → Rise k xs → i < j → at xs i ≡ some a → at xs j ≡ some b → a.id.index < b.id.index
unfolding at
rise_order k [] i j a b r h e f = none_some e
rise_order k (x ∷ xs) i zero a b r h e f = absurd (omega arith)
rise_order k (x ∷ xs) zero (suc j) a b r h e f =
    let g : x ≡ a = cc in
    omega (arith, ap (λ y. y.id.index) g, rise_above x.id.index xs j b r.1 f)
rise_order k (x ∷ xs) (suc i) (suc j) a b r h e f = rise_order x.id.index xs i j a b r.1 (omega arith) e f

-- ---- one event

action_same : {a b : Action} → action a ≡ action b → a ≡ b
action_same e = cc

waiting_order : (k : ℕ) (t : Server) (rs : List Record) → OwnListFits t.me t.log → SendsWaiting k t rs
    → (i j : ℕ) (a b : Action) → i < j → at rs i ≡ some (action a) → at rs j ≡ some (action b) → a.id.index < b.id.index
unfolding unsent above
waiting_order k t rs f w i j a b h p q =
    let us = unsent k t.log.own in
    let x = at_map action us i (action a) (subst (λ y. at y i ≡ some (action a)) w.records p) in
    let y = at_map action us j (action b) (subst (λ z. at z j ≡ some (action b)) w.records q) in
    let r = rise_filter (λ z. k <? z.id.index) _ t.log.own (ids_rise _ _ _ t.log.own f.ids) in
    omega (arith, rise_order _ us i j x.0 y.0 r h x.1 y.1, ap (λ z. z.id.index) (action_same x.2), ap (λ z. z.id.index) (action_same y.2))

two_in_one : {X : Type 0} (r : Record) (i j : ℕ) (x y : Record) → i < j → at (r ∷ []) i ≡ some x → at (r ∷ []) j ≡ some y → X
two_in_one r i j x y h p q = absurd (omega (arith, (at_single r i x p).0, (at_single r j y q).0))

-- Of two actions that one event puts out the later has the higher index.
pub sent_order : {s : Server} {r : Record} {t : Server} {rs : List Record} {c : Bool} → PutsOut s r t rs c → OwnListFits t.me t.log
    → (i j : ℕ) (a b : Action) → i < j → at rs i ≡ some (action a) → at rs j ≡ some (action b) → a.id.index < b.id.index
unfolding at
sent_order (P.nothing c n) f i j a b h p q = none_some p
sent_order (P.state_on_entry c e m d n) f i j a b h p q = two_in_one _ i j _ _ h p q
sent_order {s} (P.part_of_plan x e m d c g n) f i j a b h p q = not_both (own_sent {s = s} (P.part_of_plan x e m d c g n) a (at_among _ i _ p)).1
sent_order (P.cpc_on_attempt e c m n) f i j a b h p q = two_in_one _ i j _ _ h p q
sent_order {t = t} (P.request_at_once u us e c m n w) f i j a b h p q = waiting_order _ t us f w i j a b h p q
sent_order (P.request_waits u e c n w) f i j a b h p q = none_some p
sent_order {t = t} (P.waiting_after_exchange us e c m n w) f i j a b h p q = waiting_order _ t us f w i j a b h p q
sent_order {t = t} (P.waiting_after_install k d us e m c g n w) f i j a b h p q = waiting_order _ t us f w i j a b h p q

-- Up to which index own actions were sent never falls.
pub sent_rises : {s : Server} {r : Record} {t : Server} {rs : List Record} {c : Bool} → PutsOut s r t rs c → s.log.sent ≤ s.log.numbered
    → s.log.numbered ≤ t.log.numbered → s.log.sent ≤ t.log.sent
sent_rises (P.nothing c n) h k = omega (arith, n.sent)
sent_rises (P.state_on_entry c e m d n) h k = omega (arith, n.sent)
sent_rises (P.part_of_plan x e m d c g n) h k = omega (arith, n.sent)
sent_rises (P.cpc_on_attempt e c m n) h k = omega (arith, n.sent)
sent_rises (P.request_at_once u us e c m n w) h k = omega (arith, w.sent)
sent_rises (P.request_waits u e c n w) h k = omega (arith, w)
sent_rises (P.waiting_after_exchange us e c m n w) h k = omega (arith, w.sent)
sent_rises (P.waiting_after_install j d us e m c g n w) h k = omega (arith, w.sent)
