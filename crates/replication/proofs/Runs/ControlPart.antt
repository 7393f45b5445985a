-- The control part (last primary, attempt, mark, numbered, sent) over a run: memory and store agree on it, and only an event that stores changes it.
use Prim.Native.Nat.{ℕ, suc, ◌≤◌}
use mathlib.Core.Path.{◌≡◌, refl, sym, ap, subst}
use mathlib.Core.Bool.{Bool, true, false}
use mathlib.Core.Logic.{◌⊎◌, inl, inr}
use native.Mathlib.Omega.{arith}
use Rattle.base.proofs.Chains.{chain}
use Rattle.replication.specs.Machine.Types.{Server, start}
use Rattle.replication.specs.Machine.Requests.{recovered}
use Rattle.replication.specs.Laws.Order.{SameControl, Grows}
use Rattle.replication.specs.Laws.Transitions.{Transition}
use Rattle.replication.specs.Runs.Run.{Run}
use Rattle.replication.proofs.Runs.Roomy.{Roomy as Allowed}
use Rattle.replication.proofs.Step.Control.{same, control_raised, control_refl, control_trans, unstored_keeps, control_stored}
use Rattle.replication.proofs.Step.Growth.{grows_refl, grows_trans, transition_grows, taken_grows}
use Rattle.replication.proofs.Step.Numbered.{numbers_reds}
use Rattle.replication.proofs.Runs.Lived.{at_place}
use Rattle.replication.proofs.Runs.Rising.{store_below_memory, store_rises_between}
use Rattle.replication.proofs.Runs.AllowedTurns.{memory_at, store_at, Acts, AllowedTurn, rests, crashes, saves, refuses, recovers, acts, allowed_turn}

pub control_sym : {s t : Server} → SameControl s t → SameControl t s
control_sym h = record { last = sym h.last; attempt = sym h.attempt; mark = sym h.mark; numbered = sym h.numbered; sent = sym h.sent }

control_same : (s t : Server) → t ≡ s → SameControl s t
control_same s t e = subst (λ x. SameControl s x) (sym e) (control_refl s)

pub recovered_control : (s : Server) → SameControl s (recovered s)
unfolding recovered
recovered_control s = same refl (numbers_reds s.log.own s.log)

abbrev log_grows : Server → Server → Type 0
log_grows s t = Grows s.log t.log

module _ (n q : ℕ) (l : Run) where
  -- Memory and store agree on the control part, for every server at every place.
  pub control_at : (i p : ℕ) → SameControl (store_at n q l p i) (memory_at n q l p i)
  control_at i p = at_place n q l (λ x. SameControl x.store x.memory) i (control_stored (start n q i)) p

  -- The store's log is one that the memory's has grown from.
  pub store_below : (i p : ℕ) → Grows (store_at n q l p i).log (memory_at n q l p i).log
  store_below i p = store_below_memory log_grows (λ s. grows_refl s.log) (λ s t u x y. grows_trans x y) taken_grows n q l i p

  -- The store's log only grows.
  pub store_grows_between : (i p r : ℕ) → p ≤ r → Grows (store_at n q l p i).log (store_at n q l r i).log
  store_grows_between i p r h =
      store_rises_between log_grows (λ s. grows_refl s.log) (λ s t u x y. grows_trans x y) taken_grows n q l i p r h

module _ {n q : ℕ} {l : Run} (A : Allowed n q l) where
  -- A place changes the control part of a server only by an event that it takes and stores.
  pub control_next : (p i : ℕ) → SameControl (memory_at n q l p i) (memory_at n q l (suc p) i) ⊎ ((x : Acts n q l p i) × (x.stores ≡ true))
  control_next p i = go (allowed_turn A p i)
    where
      acting : (x : Acts n q l p i) (b : Bool) → x.stores ≡ b
          → SameControl (memory_at n q l p i) (memory_at n q l (suc p) i) ⊎ ((x : Acts n q l p i) × (x.stores ≡ true))
      acting x true e = inr (x, e)
      acting x false e =
          inl
          (subst (λ y. SameControl (memory_at n q l p i) y) (sym x.memory_next)
          (control_raised x.white (unstored_keeps (subst (λ b. Transition (memory_at n q l p i) x.by.event x.after x.by.records b) e x.moves))))

      go : AllowedTurn n q l p i → SameControl (memory_at n q l p i) (memory_at n q l (suc p) i) ⊎ ((x : Acts n q l p i) × (x.stores ≡ true))
      go (rests o m c d) = inl (control_same _ _ (ap (λ y. y.memory) m))
      go (crashes x m c d) = inl (control_same _ _ (ap (λ y. y.memory) m))
      go (saves x m c d u) = inl (control_same _ _ (ap (λ y. y.memory) m))
      go (refuses x) = inl (control_same _ _ (ap (λ y. y.memory) x.images_next))
      go (recovers x) =
          inl
          (subst (λ y. SameControl (memory_at n q l p i) y) (sym x.memory_next)
          (control_raised x.white (control_trans (control_sym (control_at n q l i p)) (recovered_control (store_at n q l p i)))))
      go (acts x) = acting x x.stores refl

  -- The number of numbered actions never falls.
  pub numbered_next : (p i : ℕ) → (memory_at n q l p i).log.numbered ≤ (memory_at n q l (suc p) i).log.numbered
  numbered_next p i = go (control_next p i)
    where
      go : SameControl (memory_at n q l p i) (memory_at n q l (suc p) i) ⊎ ((x : Acts n q l p i) × (x.stores ≡ true))
          → (memory_at n q l p i).log.numbered ≤ (memory_at n q l (suc p) i).log.numbered
      go (inl h) = omega (arith, h.numbered)
      go (inr h) = omega (arith, (transition_grows h.0.moves).numbers, ap (λ y. y.log.numbered) h.0.memory_next)

  pub numbered_between : (i p r : ℕ) → p ≤ r → (memory_at n q l p i).log.numbered ≤ (memory_at n q l r i).log.numbered
  numbered_between i p r h =
      chain (λ x y. x ≤ y) (λ a. omega arith) (λ a b c u v. omega arith) (λ x. (memory_at n q l x i).log.numbered) p r h (λ x a b. numbered_next x i)
