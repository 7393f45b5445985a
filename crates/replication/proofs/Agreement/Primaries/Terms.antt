-- A server's stay in a configuration: no action comes before the Install; after it the server has what it had then and the actions that have come since.
use Prim.Native.Nat.{ℕ, suc, ◌≤◌, ◌<◌}
use mathlib.Core.Path.{◌≡◌, refl, sym, ap, ◌∙◌}
use mathlib.Core.Bool.{true}
use mathlib.Core.List.{List, [], ◌∷◌}
use mathlib.Core.Logic.{inl, inr}
use mathlib.Core.Option.{some}
use native.Mathlib.Omega.{arith}
use lib.ListN.{length}
use Rattle.base.proofs.AtLaws.{none_some}
use Rattle.base.proofs.Comparable.{begins_empty}
use Rattle.base.specs.Lists.{Begins}
use Rattle.format.specs.Types.{Action, action}
use Rattle.replication.specs.Machine.Types.{Non_prim, Reg_prim, Exchange_states, Configuration}
use Rattle.replication.specs.Laws.Images.{OfBoth}
use Rattle.replication.specs.Laws.Modes.{ColourFactsOf}
use Rattle.replication.specs.Runs.Run.{Run, world_at, place_at}
use Rattle.replication.specs.Runs.Happenings.{is_message, Comes}
use Rattle.replication.proofs.Runs.Roomy.{Roomy as Allowed}
use Rattle.replication.proofs.Runs.DeliveryFacts.{within, within_regular}
use Rattle.replication.proofs.WellFormed.Runs.{colour_facts}
use Rattle.replication.proofs.Runs.AllowedTurns.{memory_at}
use Rattle.replication.proofs.Runs.DeliveryLists.{within_regular_holds}
use Rattle.replication.proofs.Runs.Lived.{at_place}
use Rattle.replication.proofs.Runs.Modes.{standing, standing_in}
use Rattle.replication.proofs.Runs.Numbers.{numbers, invariant_at}
use Rattle.replication.proofs.Runs.Order.{in_regular_of}
use Rattle.replication.proofs.Runs.Progress.{stay_member}
use Rattle.replication.proofs.Runs.Stays.{membership_at, stay_transitional}
use Rattle.replication.proofs.Agreement.Terms.{InstallsAt}
use Rattle.replication.proofs.Agreement.Exchange.ActionsTaken.{SendsActions, ActionMessage, action_message}
use Rattle.replication.proofs.Agreement.Exchange.Answers.{coming}
use Rattle.replication.proofs.Agreement.Exchange.PastExchange.{past_exchange}
use Rattle.replication.proofs.Agreement.Exchange.Stages.{stage, InCom}
use Rattle.replication.proofs.Agreement.Primaries.Acted.{acted_in}
use Rattle.replication.proofs.Agreement.Primaries.Parts.{InRegPrim, InTransPrim}
use Rattle.replication.proofs.Agreement.Primaries.Steps.{before_install}

pub begins_nothing : {X : Type 0} (x : List X) → Begins x [] → x ≡ []
begins_nothing [] h = refl
begins_nothing (a ∷ x) h = absurd (begins_empty a x h)

module _ {n q : ℕ} {l : Run} (A : Allowed n q l) where
  -- The green list after an Install; the cuts at it.
  abbrev pub base : {p i : ℕ} {c : Configuration} → InstallsAt n q l p i c → List Action
  base {p} {i} x = (memory_at n q l (suc p) i).log.green

  abbrev pub cuts_of : {p i : ℕ} {c : Configuration} → InstallsAt n q l p i c → List ℕ
  cuts_of {p} {i} x = (memory_at n q l p i).log.cuts

  -- The actions that i has delivered by p, in regular c and in com(c).
  abbrev pub regularly : Configuration → ℕ → ℕ → List Action
  regularly c i p = acted_in A (within_regular c) i p

  abbrev pub in_com : Configuration → ℕ → ℕ → List Action
  in_com c i p = acted_in A (within c) i p

  -- ---- a delivered action

  module _ (p i : ℕ) (a : Action) (come : Comes n q l p i (action a)) (c : Configuration) (here : InCom n q l p i c) where
    message : ActionMessage A (A.allowed.source p) a.id.creator c
    unfolding is_message
    message = action_message A (coming A come refl) refl here

    pub creator_server : a.id.creator < n
    creator_server = (stay_member A a.id.creator (suc (A.allowed.source p).sending) c message.after).0

    pub past_exchanging : (membership_at n q l p i).mode ≡ Exchange_states → ⊥
    unfolding is_message stage
    past_exchanging e =
        omega (
          arith,
          past_exchange A message.sends message.after (go message.sender_in) (λ f. message.regular) (coming A come refl) here,
          ap stage e,
        )
      where
        go : SendsActions (membership_at n q l (suc (A.allowed.source p).sending) a.id.creator).mode
            → 2 ≤ stage (membership_at n q l (suc (A.allowed.source p).sending) a.id.creator).mode
        go (inl f) = omega (arith, ap stage f)
        go (inr f) = omega (arith, ap stage f)

  pub creator_cut : (p i : ℕ) (a : Action) → Comes n q l p i (action a) → (c : Configuration) → InCom n q l p i c
      → a.id.creator < length (memory_at n q l p i).log.cuts
  creator_cut p i a come c here =
      omega (
        arith,
        creator_server p i a come c here,
        (invariant_at n q i A.allowed.sizes (stay_member A i p c here).0 l p).memory.well_formed_lem.log.cuts_length,
        (numbers n q i l p).memory.servers,
      )

  pub colours_at : (p i : ℕ) → i < n → OfBoth ColourFactsOf ((world_at n q l p).images i)
  colours_at p i h = at_place n q l (OfBoth ColourFactsOf) i (colour_facts n q i A.allowed.sizes h) p

  -- ---- regular or transitional

  pub regular_place : (p i : ℕ) (c : Configuration) → InCom n q l p i c → (membership_at n q l p i).mode ≡ Reg_prim → place_at n q l i p ≡ in_regular_of c
  regular_place p i c here m =
      let t = sym (stay_transitional A p i c here) ∙ (standing_in (memory_at n q l p i) Reg_prim m (standing n q l i p).memory).none_after in
      λ j. record { regular = here j; transitional = t j }

  pub not_regular : (p i : ℕ) (c : Configuration) (x : ℕ) → InCom n q l p i c → (membership_at n q l p i).transitional ≡ some x
      → within_regular c (place_at n q l i p) ≡ true → ⊥
  not_regular p i c x here m h =
      none_some (sym (ap (λ y. y.transitional) (within_regular_holds c (place_at n q l i p) h)) ∙ sym (stay_transitional A p i c here) ∙ m)

  -- ---- where a server stands in its stay

  pub data PrimaryPhase (p i : ℕ) (c : Configuration) : Type 0 where
    early : before_install (membership_at n q l p i).mode ≡ true → in_com c i p ≡ [] → PrimaryPhase p i c
    settled : (membership_at n q l p i).mode ≡ Non_prim → PrimaryPhase p i c
    regular : (r : ℕ) → r < p → (y : InstallsAt n q l r i c) → InRegPrim (base y) (cuts_of y) (regularly c i p) (in_com c i p) (memory_at n q l p i) → PrimaryPhase p i c
    transitional : (r : ℕ) → r < p → (y : InstallsAt n q l r i c) → InTransPrim (base y) (cuts_of y) (regularly c i p) (in_com c i p) (memory_at n q l p i)
        → PrimaryPhase p i c
