-- On taking a configuration a server stores what it has; so members who took it at different places had comparable green lists.
use Prim.Native.Nat.{ℕ, suc, ◌<◌}
use mathlib.Core.Path.{◌≡◌, refl, sym, ap, ◌∙◌}
use mathlib.Core.Bool.{Bool, true}
use mathlib.Core.List.{List, map-append}
use native.Mathlib.Omega.{arith}
use Rattle.base.specs.Lists.{Begins}
use Rattle.base.specs.Tests.{pick}
use Rattle.base.proofs.TestLaws.{not_both}
use Rattle.format.specs.Types.{Action, Record}
use Rattle.replication.specs.Machine.Types.{Configuration, Server, with_white}
use Rattle.replication.specs.Machine.WellFormed.{ids_in}
use Rattle.replication.specs.Laws.Order.{Grows}
use Rattle.replication.specs.Laws.Transitions as L
use Rattle.replication.specs.Laws.Transitions.{Transition}
use Rattle.replication.specs.Runs.Run.{Run}
use Rattle.replication.specs.Runs.Happenings.{Takes}
use Rattle.replication.proofs.Runs.Roomy.{Roomy as Allowed}
use Rattle.replication.proofs.Runs.AllowedTurns.{memory_at, store_at, Acts}
use Rattle.replication.proofs.Runs.ControlPart.{store_grows_between}
use Rattle.replication.proofs.Runs.Sending.{regular_acts}
use Rattle.replication.proofs.Agreement.Terms.{Image, in_store, InstallsAt, ExchangeFacts}
use Rattle.replication.proofs.Agreement.Votes.Changes.{is_regular}
use Rattle.replication.proofs.Agreement.Greens.Beginnings.{Prefix, prefix_from, comparable_beginnings}
use Rattle.replication.proofs.Agreement.Greens.Terms.{greens, base_of, cuts_of, Agreeable}
use Rattle.replication.proofs.Agreement.Greens.Parts.{Parts}
use Rattle.replication.proofs.Agreement.Greens.Invariant.{Invariant, UpTo}
use Rattle.replication.proofs.Agreement.Greens.Comparing.{fifo_beginning, takers_before, agree, image_fifo}

pub ids_prefix : (x y : List Action) → Prefix x y → Prefix (ids_in x) (ids_in y)
unfolding Begins ids_in
ids_prefix x y h = record { begins = (ids_in h.begins.0, ap ids_in h.begins.1 ∙ map-append (λ a. a.id) x h.begins.0) }

pub grows_greens : (s t : Server) → Grows s.log t.log → Prefix (greens s) (greens t)
grows_greens s t h = ids_prefix s.log.green t.log.green (record { begins = h.greens })

-- "on entry .. the state is stored"
regular_stores : {s : Server} {r : Record} {t : Server} {rs : List Record} {b : Bool} → Transition s r t rs b → is_regular r ≡ true → b ≡ true
unfolding is_regular
regular_stores (L.ignores_state x e) h = not_both h
regular_stores (L.ignores_cpc k i e) h = not_both h
regular_stores (L.reddens a e) h = not_both h
regular_stores (L.reddens_resent k p a e) h = not_both h
regular_stores (L.reddens_in_exchange a e) h = not_both h
regular_stores (L.greens a e) h = not_both h
regular_stores (L.yellows a e) h = not_both h
regular_stores (L.installs_late a e) h = refl
regular_stores (L.exchanges k p a e c) h = not_both h
regular_stores (L.exchanges_last k p a u us e c x) h = refl
regular_stores (L.collects x e c) h = not_both h
regular_stores (L.collects_last x e c d) h = not_both h
regular_stores (L.collects_whole x u us e c d y) h = refl
regular_stores (L.counts k i e c) h = not_both h
regular_stores (L.installs k i e c) h = refl
regular_stores (L.counts_late k i e c) h = not_both h
regular_stores (L.counts_all_late k i e c) h = not_both h
regular_stores (L.joins c e) h = refl
regular_stores (L.joins_marked c e) h = refl
regular_stores (L.joins_unmarked c e) h = refl
regular_stores (L.joins_yellow c e) h = refl
regular_stores (L.leaves m n x e q) h = not_both h
regular_stores (L.sends p c) h = refl
regular_stores (L.numbers p c) h = refl
regular_stores L.recovers h = refl

module _ {n q : ℕ} {l : Run} (A : Allowed n q l) where
  -- What is stored is the memory.
  pub stored_next : {p i : ℕ} (x : Acts n q l p i) → x.stores ≡ true → store_at n q l (suc p) i ≡ memory_at n q l (suc p) i
  unfolding pick
  stored_next {p} {i} x h = x.store_next ∙ ap (λ b. pick b (with_white x.white x.after) (store_at n q l p i)) h ∙ sym x.memory_next

  pub takes_stored : {p i : ℕ} {c : Configuration} → Takes n q l p i c → store_at n q l (suc p) i ≡ memory_at n q l (suc p) i
  unfolding is_regular
  takes_stored {p} {i} {c} t =
      let x = regular_acts A p i c t in
      stored_next x.0 (regular_stores x.0.moves (ap is_regular x.1))

  pub took_begins : {e j t : ℕ} {c : Configuration} → Takes n q l e j c → e < t → Prefix (greens (memory_at n q l (suc e) j)) (greens (store_at n q l t j))
  took_begins {e} {j} {t} k h =
      prefix_from (ap greens (sym (takes_stored k)))
      (grows_greens (store_at n q l (suc e) j) (store_at n q l t j) (store_grows_between n q l j (suc e) t h))

  module _ (X : ExchangeFacts n q l) (P : Parts A) where
    pub agreeable : {t : ℕ} (c : Configuration) → Invariant A t → ((e k : ℕ) → Takes n q l e k c → e < t) → Agreeable A c
    agreeable {t} c I f = record {
      comparable = λ e g j k x y. comparable_beginnings (took_begins x (f e j x)) (took_begins y (f g k y)) (agree A X P I (stored j) (stored k));
      fifo = λ e j x. fifo_beginning (took_begins x (f e j x)) (image_fifo A X P I (stored j));
    }
      where
        stored : (j : ℕ) → Image n q l t j (store_at n q l t j)
        stored j = in_store

    pub same_install_next : {t : ℕ} → UpTo A t → (p r i j : ℕ) (c : Configuration) (x : InstallsAt n q l p i c) (y : InstallsAt n q l r j c)
        → p < suc t → r < suc t
        → (base_of A x ≡ base_of A y) × (cuts_of A x ≡ cuts_of A y)
    same_install_next {t} U p r i j c x y h k =
        P.contents.one_base p r i j c (agreeable c (U t (omega arith)) (λ e k o. omega (arith, takers_before A X x o))) x y
