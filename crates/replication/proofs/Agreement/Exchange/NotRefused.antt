-- In an allowed run no delivered record is refused.
use Prim.Native.Nat.{ℕ}
use mathlib.Core.Path.{◌≡◌, sym, ap, ◌∙◌}
use mathlib.Core.Bool.{Bool, true}
use mathlib.Core.List.{List}
use native.Mathlib.Omega.{arith}
use Rattle.base.proofs.TestLaws.{not_both}
use Rattle.base.proofs.AtLaws.{some_same}
use Rattle.format.specs.Types.{Action, Record, action, retransmission, state, cpc, regular, transitional, request, recovery, says}
use Rattle.replication.specs.Machine.Types.{Configuration, Server, Outcome, taken}
use Rattle.replication.specs.Machine.Step.{step}
use Rattle.replication.specs.Images.{is_recovery, arrive}
use Rattle.replication.specs.Runs.Run.{Run, heard_at}
use Rattle.replication.specs.Runs.Happenings.{is_message, Comes}
use Rattle.replication.proofs.Runs.Roomy.{Roomy as Allowed}
use Rattle.replication.proofs.Runs.Places.{event_entry}
use Rattle.replication.proofs.Runs.Coupling.{Source, from_store, from_memory, source}
use Rattle.replication.proofs.Runs.AllowedTurns.{memory_at, Acts, Refuses}
use Rattle.replication.proofs.Agreement.Exchange.Stages.{InCom}
use Rattle.replication.proofs.Agreement.Exchange.Answers.{coming, TakenAt}
use Rattle.replication.proofs.Agreement.Exchange.States.{state_taken}
use Rattle.replication.proofs.Agreement.Exchange.CpcsTaken.{cpc_taken}
use Rattle.replication.proofs.Agreement.Exchange.ActionsTaken.{action_taken}
use Rattle.replication.proofs.Agreement.Exchange.ResentTaken.{retransmission_taken}

taken_refused : {X : Type 0} {t : Server} {r : List (List ℕ)} {b : Bool} {g : List Action} {z : ℕ} → taken t r b g ≡ Outcome.refused z → X
taken_refused e = let z : ◌≡◌ {A = ℕ} 0 1 = cc in absurd (omega arith)

module _ {n q : ℕ} {l : Run} (A : Allowed n q l) where
  -- A delivery has a configuration.
  delivered_in : (p i : ℕ) (r : Record) → Comes n q l p i r → is_message r ≡ true → (c : Configuration) × InCom n q l p i c
  delivered_in p i r come h = let s = A.allowed.same_configuration_lem p i (A.allowed.source p) (coming A come h) in (s.1, s.3)

  -- A record of the kinds 1 to 4 that comes to a server is taken.
  pub delivery_taken : (p i : ℕ) (r : Record) → Comes n q l p i r → is_message r ≡ true → TakenAt n q l p i r
  unfolding is_message
  delivery_taken p i (action a) come h = let s = delivered_in p i _ come h in action_taken A p i a come s.0 s.1
  delivery_taken p i (retransmission k x a) come h = let s = delivered_in p i _ come h in retransmission_taken A p i k x a come s.0 s.1
  delivery_taken p i (state x) come h = let s = delivered_in p i _ come h in state_taken A p i x come s.0 s.1
  delivery_taken p i (cpc k x) come h = let s = delivered_in p i _ come h in cpc_taken A p i k x come s.0 s.1
  delivery_taken p i (regular k x) come h = not_both h
  delivery_taken p i (transitional x) come h = not_both h
  delivery_taken p i (request x) come h = not_both h
  delivery_taken p i recovery come h = not_both h

  -- An event is not both taken and refused.
  one_answer : {p i : ℕ} → Acts n q l p i → Refuses n q l p i → ⊥
  unfolding arrive is_recovery
  one_answer {p} {i} x y = go (source A p i x.sent x.bytes x.here)
    where
      same : x.bytes ≡ y.bytes
      same = (event_entry (some_same (sym x.here ∙ y.here))).1

      go : Source n q l p i x.bytes → ⊥
      go (from_store h o r) = not_both (sym x.running ∙ ap is_recovery (sym x.heard ∙ h))
      go (from_memory u r o h) =
          taken_refused (sym x.arrives ∙ ap (λ s. step s x.bytes) o ∙ ap (step (memory_at n q l p i)) same ∙ y.refusal)

  -- What a server refuses is no delivery.
  pub no_delivery_refused : {p i : ℕ} {r : Record} (x : Refuses n q l p i) → heard_at n q l p i x.bytes ≡ says r → is_message r ≡ true → ⊥
  no_delivery_refused {p} {i} {r} x h m =
      one_answer (delivery_taken p i r (record { bytes = x.bytes; sent = x.sent; here = x.here; heard = h }) m).0 x
