-- The actions that a server delivers while its place passes a test: how their list grows, and what servers deliver in one configuration.
use Prim.Native.Nat.{ℕ, zero, suc, ◌≤◌, ◌<◌}
use mathlib.Core.Path.{◌≡◌, refl, sym, ap, subst, ◌∙◌}
use mathlib.Core.Bool.{Bool, true}
use mathlib.Core.List.{List, [], ◌∷◌, ◌++◌, append-nil}
use mathlib.Core.Logic.{◌⊎◌, inl, inr}
use mathlib.Core.Option.{Option, none, some}
use native.Mathlib.Omega.{arith}
use native.Mathlib.Decide.{dec_lt}
use lib.ListN.{length}
use Rattle.base.proofs.AtLaws.{at_low}
use Rattle.base.proofs.Chains.{chain}
use Rattle.base.proofs.Comparable.{Comparable, begins_map, gather_append, begins_gather}
use Rattle.base.specs.Lists.{Each, at_front, gather, Begins}
use Rattle.base.proofs.ListLaws.{each_append}
use Rattle.base.proofs.Prefixes.{begins_refl, begins_same, begins_append, begins_trans}
use Rattle.base.specs.Tests.{pick}
use Rattle.base.proofs.TestLaws.{not_both, Known, holds, fails, known}
use Rattle.format.specs.Types.{Action, Record, action, retransmission, state, cpc, regular, transitional, request, recovery}
use Rattle.replication.specs.Machine.Types.{Configuration}
use Rattle.replication.specs.Runs.Run.{Run, Place, place_at}
use Rattle.replication.specs.Runs.Happenings.{is_message, Comes, Left}
use Rattle.replication.proofs.Runs.Roomy.{Roomy as Allowed}
use Rattle.replication.proofs.Runs.DeliveryFacts.{within, within_regular, action_in, record_of, delivers_at, delivery_places, delivered, delivered_records, delivered_actions}
use Rattle.replication.proofs.Runs.Agreement.{regular_agreement, left_agreement, regular_begins_com}
use Rattle.replication.proofs.Runs.Deliveries.{Delivery}
use Rattle.replication.proofs.Runs.DeliveryLists.{delivers_holds, delivers_yes, delivered_more, delivered_same}
use Rattle.replication.proofs.Runs.Origins.{delivery_says}
use Rattle.replication.proofs.Agreement.Exchange.Answers.{coming}

-- ---- lists of options

gather_more : {X Y : Type 0} (f : X → Option Y) (xs : List X) (x : X) (y : Y) → f x ≡ some y → gather f (xs ++ (x ∷ [])) ≡ gather f xs ++ (y ∷ [])
unfolding gather at_front
gather_more f xs x y e = gather_append f xs (x ∷ []) ∙ ap (λ o. gather f xs ++ at_front o []) e

gather_no_more : {X Y : Type 0} (f : X → Option Y) (xs : List X) (x : X) → f x ≡ none → gather f (xs ++ (x ∷ [])) ≡ gather f xs
unfolding gather at_front
gather_no_more f xs x e = gather_append f xs (x ∷ []) ∙ ap (λ o. gather f xs ++ at_front o []) e ∙ append-nil (gather f xs)

-- ---- the list

module _ {n q : ℕ} {l : Run} (A : Allowed n q l) where
  -- The actions that the server i delivers before p while its place passes the test, in order.
  abbrev pub acted_in : (Place → Bool) → ℕ → ℕ → List Action
  acted_in t i p = delivered_actions n q l A.allowed.source t i p

  module _ (t : Place → Bool) (i : ℕ) where
    -- A delivered action is added.
    pub acted_more : (p : ℕ) (a : Action) → Comes n q l p i (action a) → t (place_at n q l i p) ≡ true → acted_in t i (suc p) ≡ acted_in t i p ++ (a ∷ [])
    unfolding delivered_actions delivered_records action_in is_message
    acted_more p a x h =
        let d : Delivery A p i (A.allowed.source p) = coming A x refl in
        ap (λ ms. gather action_in (gather (record_of n q l) ms)) (delivered_more A t i p (A.allowed.source p) d h)
        ∙ ap (gather action_in) (gather_more (record_of n q l) (delivered n q l A.allowed.source t i p) (A.allowed.source p) (action a) (delivery_says A d))
        ∙ gather_more action_in (delivered_records n q l A.allowed.source t i p) (action a) a refl

    -- A place adds an action that comes there, or nothing.
    pub data ActedNext (p : ℕ) : Type 0 where
      adds : (a : Action) → Comes n q l p i (action a) → t (place_at n q l i p) ≡ true → acted_in t i (suc p) ≡ acted_in t i p ++ (a ∷ []) → ActedNext p
      adds_nothing : acted_in t i (suc p) ≡ acted_in t i p → ActedNext p

    other : (p : ℕ) (r : Record) → Comes n q l p i r → is_message r ≡ true → t (place_at n q l i p) ≡ true → action_in r ≡ none → ActedNext p
    unfolding delivered_actions delivered_records
    other p r x m h e =
        let d : Delivery A p i (A.allowed.source p) = coming A x m in
        adds_nothing
        (ap (λ ms. gather action_in (gather (record_of n q l) ms)) (delivered_more A t i p (A.allowed.source p) d h)
        ∙ ap (gather action_in) (gather_more (record_of n q l) (delivered n q l A.allowed.source t i p) (A.allowed.source p) r (delivery_says A d))
        ∙ gather_no_more action_in (delivered_records n q l A.allowed.source t i p) r e)

    pub acted_next : (p : ℕ) → ActedNext p
    unfolding delivered_actions delivered_records action_in
    acted_next p = go (known (delivers_at n q l t i p))
      where
        by_kind : (r : Record) → Comes n q l p i r → is_message r ≡ true → t (place_at n q l i p) ≡ true → ActedNext p
        by_kind (action a) x m h = adds a x h (acted_more p a x h)
        by_kind (retransmission k s a) x m h = other p _ x m h refl
        by_kind (state s) x m h = other p _ x m h refl
        by_kind (cpc k s) x m h = other p _ x m h refl
        by_kind (regular k s) x m h = other p _ x m h refl
        by_kind (transitional s) x m h = other p _ x m h refl
        by_kind (request s) x m h = other p _ x m h refl
        by_kind recovery x m h = other p _ x m h refl

        go : Known (delivers_at n q l t i p) → ActedNext p
        go (fails e) =
            adds_nothing
            (ap (λ ms. gather action_in (gather (record_of n q l) ms))
            (delivered_same A t i p (λ m d h. not_both (sym e ∙ delivers_yes A t i p m d h))))
        go (holds e) = let x = delivers_holds A t i p e in by_kind x.0.what x.0.comes x.0.message x.1

    -- Only an action that comes is added.
    pub acted_same : (p : ℕ) → ((a : Action) → Comes n q l p i (action a) → t (place_at n q l i p) ≡ true → ⊥) → acted_in t i (suc p) ≡ acted_in t i p
    acted_same p f = go (acted_next p)
      where
        go : ActedNext p → acted_in t i (suc p) ≡ acted_in t i p
        go (adds a x h e) = absurd (f a x h)
        go (adds_nothing e) = e

    -- A fact of each action that comes.
    pub each_acted : (P : Action → Type 0) → ((x : ℕ) (a : Action) → Comes n q l x i (action a) → t (place_at n q l i x) ≡ true → P a) → (p : ℕ) → Each P (acted_in t i p)
    unfolding delivered_actions delivered_records delivered delivery_places gather
    each_acted P f zero = tt
    each_acted P f (suc p) = go (acted_next p) (each_acted P f p)
      where
        go : ActedNext p → Each P (acted_in t i p) → Each P (acted_in t i (suc p))
        go (adds a x h e) k = subst (Each P) (sym e) (each_append P (acted_in t i p) (a ∷ []) k (f p a x h, tt))
        go (adds_nothing e) k = subst (Each P) (sym e) k

    -- The list only grows.
    pub acted_grows : (p r : ℕ) → p ≤ r → Begins (acted_in t i p) (acted_in t i r)
    unfolding delivered_actions delivered_records delivered delivery_places
    acted_grows p r h =
        begins_gather action_in _ _
        (begins_gather (record_of n q l) _ _
        (chain (λ x y. Begins x y) begins_refl begins_trans (λ x. delivered n q l A.allowed.source t i x) p r h (λ x a b. next x)))
      where
        next : (x : ℕ) → Begins (delivered n q l A.allowed.source t i x) (delivered n q l A.allowed.source t i (suc x))
        next x =
            begins_map A.allowed.source (delivery_places n q l t i x) (delivery_places n q l t i (suc x))
            (begins_append (delivery_places n q l t i x) (pick (delivers_at n q l t i x) (x ∷ []) []))

    -- What no place between p and r adds to stays.
    pub acted_still : (p r : ℕ) → p ≤ r → ((x : ℕ) (a : Action) → p ≤ x → x < r → Comes n q l x i (action a) → t (place_at n q l i x) ≡ true → ⊥)
        → acted_in t i r ≡ acted_in t i p
    acted_still p r h f = chain (λ x y. y ≡ x) (λ x. refl) (λ x y z u v. v ∙ u) (λ x. acted_in t i x) p r h (λ x a b. acted_same x (λ c. f x c a b))

    pub acted_none : (p : ℕ) → ((x : ℕ) (a : Action) → x < p → Comes n q l x i (action a) → t (place_at n q l i x) ≡ true → ⊥) → acted_in t i p ≡ []
    unfolding delivered_actions delivered_records delivered delivery_places gather
    acted_none p f = acted_still 0 p (omega arith) (λ x a b. f x a)

    -- Up to any moment it begins what it is in the whole run.
    pub acted_whole : (p : ℕ) → Begins (acted_in t i p) (acted_in t i (length l))
    acted_whole p = go (dec_lt (length l) p)
      where
        go : Dec (length l < p) → Begins (acted_in t i p) (acted_in t i (length l))
        go (no h) = acted_grows p (length l) (omega arith)
        go (yes h) =
            begins_same _ _
            (sym (acted_still (length l) p (omega arith) (λ x a b c y k. omega (arith, at_low l x _ y.here))))

  -- ---- in one configuration

  module _ (c : Configuration) where
    pub acted_agreement : (i j p r : ℕ) → Comparable (acted_in (within_regular c) i p) (acted_in (within_regular c) j r)
    unfolding Comparable delivered_actions delivered_records
    acted_agreement i j p r = go (regular_agreement A c i j p r)
      where
        go : Begins (delivered n q l A.allowed.source (within_regular c) i p) (delivered n q l A.allowed.source (within_regular c) j r)
            ⊎ Begins (delivered n q l A.allowed.source (within_regular c) j r) (delivered n q l A.allowed.source (within_regular c) i p)
            → Begins (acted_in (within_regular c) i p) (acted_in (within_regular c) j r) ⊎ Begins (acted_in (within_regular c) j r) (acted_in (within_regular c) i p)
        go (inl h) = inl (begins_gather action_in _ _ (begins_gather (record_of n q l) _ _ h))
        go (inr h) = inr (begins_gather action_in _ _ (begins_gather (record_of n q l) _ _ h))

    -- Who has left com(c) has delivered there, first and in the same order, all actions that another delivers in regular c.
    pub acted_left : (i j p r : ℕ) (x : Left n q l j c) → x.r ≤ r → Begins (acted_in (within_regular c) i p) (acted_in (within c) j r)
    unfolding delivered_actions delivered_records
    acted_left i j p r x h = begins_gather action_in _ _ (begins_gather (record_of n q l) _ _ (left_agreement A c i j p r x h))

    pub acted_regular : (i p r : ℕ) → p ≤ r → Begins (acted_in (within_regular c) i p) (acted_in (within c) i r)
    unfolding delivered_actions delivered_records
    acted_regular i p r h = begins_gather action_in _ _ (begins_gather (record_of n q l) _ _ (regular_begins_com A c i p r h))
