-- From a step to a run: what each taken event keeps holds of both images after any events.
use Prim.Native.Nat.{ℕ}
use mathlib.Core.Path.{◌≡◌, refl}
use mathlib.Core.Bool.{Bool, true, false}
use mathlib.Core.List.{List, [], ◌∷◌}
use mathlib.Core.Option.{Option, none, some}
use Rattle.base.specs.Tests.{pick}
use Rattle.format.specs.Types.{Action}
use Rattle.format.specs.Read.{read}
use Rattle.replication.specs.Machine.Types.{Server, Outcome, refused, taken, context_of}
use Rattle.replication.specs.Machine.Step.{step}
use Rattle.replication.specs.Images.{Images, started, is_recovery, source_of, arrive, left_by, saved_in, lived}
use Rattle.replication.specs.Laws.Images.{OfBoth, next}

-- The state that an event gets is one of the images.
pub source_of_lem : (Q : Server → Type 0) (i : Images) (e : List ℕ) → Q i.store → Q i.memory → Q (source_of i e)
unfolding source_of pick
source_of_lem Q i e p q = go (is_recovery (read (context_of i.memory) e))
  where
    go : (c : Bool) → Q (pick c i.store i.memory)
    go true = p
    go false = q

-- A refused event changes nothing.
pub refused_leaves : (k : ℕ) (i : Images) → left_by (refused k) i ≡ i
unfolding left_by
refused_leaves k i = refl

-- ---- a fact of one server that every taken event keeps

module _ (P : Server → Type 0)
    (kept : (s : Server) (e : List ℕ) (t : Server) (bs : List (List ℕ)) (b : Bool) (g : List Action) → step s e ≡ taken t bs b g → P s → P t)
  where
    left_each : (i : Images) (e : List ℕ) (o : Outcome (List ℕ)) → arrive i e ≡ o → OfBoth P i → OfBoth P (left_by o i)
    unfolding left_by arrive pick
    left_each i e (refused k) h p = p
    left_each i e (taken t bs true g) h p =
        let q = kept (source_of i e) e t bs true g h (source_of_lem P i e p.store p.memory) in
        record { memory = q; store = q }
    left_each i e (taken t bs false g) h p =
        record { memory = kept (source_of i e) e t bs false g h (source_of_lem P i e p.store p.memory); store = p.store }

    pub next_each : (i : Images) (e : List ℕ) → OfBoth P i → OfBoth P (next i e)
    unfolding next
    next_each i e p = left_each i e (arrive i e) refl p

    pub lived_each : (i : Images) (es : List (Option (List ℕ))) → OfBoth P i → OfBoth P (lived i es)
    unfolding lived next
    lived_each i [] p = p
    lived_each i (none ∷ es) p = lived_each (saved_in i) es (record { memory = p.memory; store = p.memory })
    lived_each i (some e ∷ es) p = lived_each (next i e) es (next_each i e p)

-- ---- a relation of the store to the memory that every event without a store keeps

module _ (Q : Server → Server → Type 0) (same : (s : Server) → Q s s)
    (unstored : (u s : Server) (e : List ℕ) (t : Server) (bs : List (List ℕ)) (g : List Action) → step s e ≡ taken t bs false g → Q u s → Q u t)
  where
    left_pair : (i : Images) (e : List ℕ) (o : Outcome (List ℕ)) → arrive i e ≡ o → Q i.store i.memory → Q (left_by o i).store (left_by o i).memory
    unfolding left_by arrive pick
    left_pair i e (refused k) h p = p
    left_pair i e (taken t bs true g) h p = same t
    left_pair i e (taken t bs false g) h p =
        unstored i.store (source_of i e) e t bs g h (source_of_lem (Q i.store) i e (same i.store) p)

    pub next_pair : (i : Images) (e : List ℕ) → Q i.store i.memory → Q (next i e).store (next i e).memory
    unfolding next
    next_pair i e p = left_pair i e (arrive i e) refl p

    pub lived_pair : (i : Images) (es : List (Option (List ℕ))) → Q i.store i.memory → Q (lived i es).store (lived i es).memory
    unfolding lived next
    lived_pair i [] p = p
    lived_pair i (none ∷ es) p = lived_pair (saved_in i) es (same i.memory)
    lived_pair i (some e ∷ es) p = lived_pair (next i e) es (next_pair i e p)

-- ---- an order that no taken event falls in

module _ (R : Server → Server → Type 0) (same : (s : Server) → R s s) (chain : (s t u : Server) → R s t → R t u → R s u)
    (rises : (s : Server) (e : List ℕ) (t : Server) (bs : List (List ℕ)) (b : Bool) (g : List Action) → step s e ≡ taken t bs b g → R s t)
  where
    -- The store is at most the memory.
    pub lived_rises : (s : Server) (es : List (Option (List ℕ))) → R (lived (started s) es).store (lived (started s) es).memory
    unfolding started
    lived_rises s es = lived_pair R same (λ u v e t bs g h p. chain u v t p (rises v e t bs false g h)) (started s) es (same s)

    left_store : (i : Images) (e : List ℕ) (o : Outcome (List ℕ)) → arrive i e ≡ o → R i.store i.memory → R i.store (left_by o i).store
    unfolding left_by arrive pick
    left_store i e (refused k) h p = same i.store
    left_store i e (taken t bs true g) h p =
        chain i.store (source_of i e) t (source_of_lem (R i.store) i e (same i.store) p) (rises (source_of i e) e t bs true g h)
    left_store i e (taken t bs false g) h p = same i.store

    -- From one event to the next the store never falls.
    pub store_rises : (s : Server) (es : List (Option (List ℕ))) (e : List ℕ) → R (lived (started s) es).store (next (lived (started s) es) e).store
    unfolding next
    store_rises s es e = left_store (lived (started s) es) e (arrive (lived (started s) es) e) refl (lived_rises s es)
