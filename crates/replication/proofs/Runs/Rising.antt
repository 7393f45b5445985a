-- An order of states that no taken event falls in, over a run: the store never falls, the memory is never below the store, and falls only by a recovery.
use Prim.Native.Nat.{ℕ, suc, ◌≤◌}
use mathlib.Core.Path.{◌≡◌, sym, ap, subst, ◌∙◌}
use mathlib.Core.Bool.{Bool}
use mathlib.Core.List.{List}
use mathlib.Core.Logic.{◌⊎◌, inl, inr}
use Rattle.base.proofs.Chains.{chain}
use Rattle.base.specs.Tests.{pick}
use Rattle.base.proofs.TestLaws.{Known, holds, fails, known}
use Rattle.format.specs.Types.{Action}
use Rattle.format.specs.Read.{read}
use Rattle.replication.specs.Machine.Types.{Server, Outcome, taken, start, context_of}
use Rattle.replication.specs.Machine.Step.{step}
use Rattle.replication.specs.Images.{is_recovery, source_of, arrive, left_by}
use Rattle.replication.specs.Laws.Images.{next}
use Rattle.replication.specs.Runs.Run.{Run, world_at}
use Rattle.replication.specs.Runs.Noted.{RecoversAt}
use Rattle.replication.proofs.Step.Lifts.{lived_rises, store_rises}
use Rattle.replication.proofs.Runs.Lived.{images_lived, at_place}
use Rattle.replication.proofs.Runs.Turns as T

module _ (R : Server → Server → Type 0) (same : (s : Server) → R s s) (along : (s t u : Server) → R s t → R t u → R s u)
    (rises : (s : Server) (e : List ℕ) (t : Server) (bs : List (List ℕ)) (b : Bool) (g : List Action) → step s e ≡ taken t bs b g → R s t)
    (n q : ℕ) (l : Run) (i : ℕ)
  where
    abbrev memory : ℕ → Server
    memory p = ((world_at n q l p).images i).memory

    abbrev store : ℕ → Server
    store p = ((world_at n q l p).images i).store

    pub store_below_memory : (p : ℕ) → R (store p) (memory p)
    store_below_memory p = at_place n q l (λ x. R x.store x.memory) i (lived_rises R same along rises (start n q i)) p

    pub store_rises_at : (p : ℕ) → R (store p) (store (suc p))
    unfolding next left_by
    store_rises_at p = go (T.turn n q l p i)
      where
        one : (e : List ℕ) (o : Outcome (List ℕ)) → arrive ((world_at n q l p).images i) e ≡ o
            → (world_at n q l (suc p)).images i ≡ left_by o ((world_at n q l p).images i) → R (store p) (store (suc p))
        one e o a m =
            let x = images_lived n q l p i in
            subst (λ y. R (store p) y.store) (sym (m ∙ ap (λ y. left_by y ((world_at n q l p).images i)) (sym a)))
            (subst (λ y. R y.store (left_by (arrive y e) y).store) (sym x.1) (store_rises R same along rises (start n q i) x.0 e))

        unchanged : (world_at n q l (suc p)).images i ≡ (world_at n q l p).images i → R (store p) (store (suc p))
        unchanged m = subst (λ y. R (store p) y.store) (sym m) (same (store p))

        go : T.Turn n q l p i → R (store p) (store (suc p))
        go (T.rests o m c d) = unchanged m
        go (T.crashes x m c d) = unchanged m
        go (T.saves x m c d) = subst (λ y. R (store p) y.store) (sym m) (store_below_memory p)
        go (T.refuses e k z h a m c d) = one e _ a m
        go (T.acts e k t bs b g h a m c d) = one e _ a m

    pub store_rises_between : (p r : ℕ) → p ≤ r → R (store p) (store r)
    store_rises_between p r h = chain (λ x y. R x y) same along store p r h (λ x a b. store_rises_at x)

    pub memory_rises_at : (p : ℕ) → R (memory p) (memory (suc p)) ⊎ RecoversAt n q l p i
    unfolding arrive source_of pick
    memory_rises_at p = go (T.turn n q l p i)
      where
        unchanged : memory (suc p) ≡ memory p → R (memory p) (memory (suc p)) ⊎ RecoversAt n q l p i
        unchanged m = inl (subst (λ y. R (memory p) y) (sym m) (same (memory p)))

        go : T.Turn n q l p i → R (memory p) (memory (suc p)) ⊎ RecoversAt n q l p i
        go (T.rests o m c d) = unchanged (ap (λ y. y.memory) m)
        go (T.crashes x m c d) = unchanged (ap (λ y. y.memory) m)
        go (T.saves x m c d) = unchanged (ap (λ y. y.memory) m)
        go (T.refuses e k z h a m c d) = unchanged (ap (λ y. y.memory) m)
        go (T.acts e k t bs b g h a m c d) = by_source (known (is_recovery (read (context_of (memory p)) e)))
          where
            by_source : Known (is_recovery (read (context_of (memory p)) e)) → R (memory p) (memory (suc p)) ⊎ RecoversAt n q l p i
            by_source (holds r) = inr (record { bytes = e; sent = k; here = h; reads = r })
            by_source (fails r) =
                let x : step (memory p) e ≡ taken t bs b g = ap (λ z. step (pick z (store p) (memory p)) e) (sym r) ∙ a in
                inl (subst (λ y. R (memory p) y) (sym (ap (λ y. y.memory) m)) (rises (memory p) e t bs b g x))
