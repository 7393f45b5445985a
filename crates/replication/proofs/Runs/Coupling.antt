-- In an allowed run, while a server is up, its configuration is the one that the run has given it, and it reads what the run says.
use Prim.Native.Nat.{ℕ, zero, suc}
use mathlib.Core.Path.{◌≡◌, refl, sym, ap, ◌∙◌}
use mathlib.Core.Bool.{Bool, true, false}
use mathlib.Core.List.{List}
use mathlib.Core.Option.{some}
use Rattle.base.specs.Tests.{pick}
use Rattle.base.proofs.TestLaws.{not_both, Known, holds, fails, known}
use Rattle.base.specs.Lists.{at}
use Rattle.base.proofs.AtLaws.{some_same}
use Rattle.format.specs.Types.{Action, Record, action, retransmission, state, cpc, regular, transitional, request, recovery, Reading, says, refused}
use Rattle.format.specs.Read.{read}
use Rattle.replication.specs.Machine.Types.{Server, Outcome, taken, start, set_of, context_of}
use Rattle.replication.specs.Machine.Step.{step}
use Rattle.replication.specs.Machine.White.{full, sieved_record}
use Rattle.replication.specs.Images.{Images, started, is_recovery, source_of, arrive}
use Rattle.replication.specs.Runs.Run.{event, Run, beginning, Place, nowhere, heard, moved, world_at, place_at, heard_at}
use Rattle.replication.proofs.Runs.Roomy.{Roomy as Allowed}
use Rattle.replication.proofs.Step.Inversion.{taken_by}
use Rattle.replication.proofs.Step.Moves as M
use Rattle.replication.proofs.Runs.Places.{world_at_start, place_at_start, event_entry}
use Rattle.replication.proofs.Runs.Turns.{Turn, rests, crashes, saves, refuses, acts, turn}
use Rattle.replication.proofs.Runs.Numbers.{Numbered, numbers}
use Rattle.replication.proofs.Runs.Modes.{Standing, standing}
use Rattle.replication.proofs.Runs.Refusals.{recovery_taken, regular_taken, transitional_taken}
use Rattle.replication.proofs.Runs.PlaceMoves.{place_of, transition_place}
use Rattle.replication.proofs.Runs.Readings.{recovery_alike, is_recovery_lem, answer_refused}

module _ (n q : ℕ) (l : Run) (p i : ℕ) (e : List ℕ) where
  -- Where a server is in the configuration that the run has given it, it reads what the run says.
  pub reads_alike : (s : Server) → Numbered n q i s → place_of s ≡ place_at n q l i p → read (context_of s) e ≡ heard_at n q l p i e
  unfolding heard_at heard context_of
  reads_alike s h c =
      ap (λ x. read x e) (λ j. record { servers = h.servers j; quota = h.quota j; self = h.me j; last = set_of (c j).regular })

  -- The state that an event gets, and what the event says to it.
  pub data Source : Type 0 where
    from_store : heard_at n q l p i e ≡ says recovery → source_of ((world_at n q l p).images i) e ≡ ((world_at n q l p).images i).store
        → read (context_of ((world_at n q l p).images i).store) e ≡ says recovery → Source
    from_memory : (world_at n q l p).down i ≡ false → is_recovery (heard_at n q l p i e) ≡ false
        → source_of ((world_at n q l p).images i) e ≡ ((world_at n q l p).images i).memory
        → read (context_of ((world_at n q l p).images i).memory) e ≡ heard_at n q l p i e → Source

  reads_recovery : (s : Server) → Numbered n q i s → heard_at n q l p i e ≡ says recovery → read (context_of s) e ≡ says recovery
  unfolding heard_at heard context_of
  reads_recovery s h x = recovery_alike _ (context_of s) e (sym h.servers) (sym h.quota) (sym h.me) x

  source_picked : (x : Images) (b : Bool) → is_recovery (read (context_of x.memory) e) ≡ b → source_of x e ≡ pick b x.store x.memory
  unfolding source_of
  source_picked x b h = ap (λ c. pick c x.store x.memory) h

  pub source_of_event : Allowed n q l → (k : ℕ) → at l p ≡ some (event i e k)
      → ((world_at n q l p).down i ≡ false → place_of ((world_at n q l p).images i).memory ≡ place_at n q l i p) → Source
  unfolding pick is_recovery
  source_of_event A k h c = go (known (is_recovery (heard_at n q l p i e))) ((world_at n q l p).down i) refl
    where
      go : Known (is_recovery (heard_at n q l p i e)) → (d : Bool) → (world_at n q l p).down i ≡ d → Source
      go (holds r) d u =
          let s = is_recovery_lem _ r in
          let o = numbers n q i l p in
          from_store s (source_picked _ true (ap is_recovery (reads_recovery _ o.memory s))) (reads_recovery _ o.store s)
      go (fails r) false u =
          let m = reads_alike _ (numbers n q i l p).memory (c u) in
          from_memory u r (source_picked _ false (ap is_recovery m ∙ r)) m
      go (fails r) true u =
          let x = A.allowed.recovers p i k e h u in
          let f = event_entry (some_same (sym x.here ∙ h)) in
          not_both (sym r ∙ ap is_recovery (ap (heard_at n q l p i) (sym f.1) ∙ x.heard))

place_sieved : (b : Bool) (r : Record) (c : Place) → moved (says (sieved_record b r)) c ≡ moved (says r) c
unfolding moved sieved_record
place_sieved b (action a) c = refl
place_sieved b (retransmission k p a) c = refl
place_sieved b (state x) c = refl
place_sieved b (cpc k i) c = refl
place_sieved b (regular i t) c = refl
place_sieved b (transitional t) c = refl
place_sieved b (request p) c = refl
place_sieved b recovery c = refl

module _ {n q : ℕ} {l : Run} (A : Allowed n q l) where
  -- A refused event leaves the run's configurations as they are: those that would change them are taken.
  refused_place : (p i k z : ℕ) (e : List ℕ) (s : Server) → at l p ≡ some (event i e k) → Standing s → place_of s ≡ place_at n q l i p
      → is_recovery (heard_at n q l p i e) ≡ false → read (context_of s) e ≡ heard_at n q l p i e → step s e ≡ Outcome.refused z
      → (x : Reading Record) → heard_at n q l p i e ≡ x → place_at n q l i p ≡ moved x (place_at n q l i p)
  unfolding moved is_recovery
  refused_place p i k z e s h d c r m a (says (action u)) x = refl
  refused_place p i k z e s h d c r m a (says (retransmission j v u)) x = refl
  refused_place p i k z e s h d c r m a (says (state u)) x = refl
  refused_place p i k z e s h d c r m a (says (cpc j u)) x = refl
  refused_place p i k z e s h d c r m a (says (regular j u)) x =
      absurd
      (regular_taken s j u z d
      (λ y. A.allowed.between p i (record { id = j; set = u }) y.configuration (record { bytes = e; sent = k; here = h; heard = x })
      (sym (ap (λ w. w.regular) c) ∙ y.there) (sym (ap (λ w. w.transitional) c) ∙ y.none_after))
      (answer_refused s e _ z a (m ∙ x)))
  refused_place p i k z e s h d c r m a (says (transitional u)) x =
      absurd
      (transitional_taken s u z d
      (ap (λ w. w.transitional) c ∙ A.allowed.one_transitional p i u (record { bytes = e; sent = k; here = h; heard = x }))
      (answer_refused s e _ z a (m ∙ x)))
  refused_place p i k z e s h d c r m a (says (request u)) x = refl
  refused_place p i k z e s h d c r m a (says recovery) x = not_both (sym r ∙ ap is_recovery x)
  refused_place p i k z e s h d c r m a (refused u) x = refl

  taken_place : (s : Server) (e : List ℕ) (t : Server) (bs : List (List ℕ)) (b : Bool) (g : List Action) (x : Reading Record) (c : Place)
      → step s e ≡ taken t bs b g
      → read (context_of s) e ≡ x → place_of s ≡ c → place_of t ≡ moved x c
  taken_place s e t bs b g x c h r d =
      let y = taken_by s e t bs b g h in
      ap place_of y.raise ∙ transition_place (M.moved y).0 ∙ place_sieved (full y.rule s) y.event (place_of s) ∙ ap (λ w. moved w (place_of s)) (sym y.reads ∙ r) ∙ ap (moved x) d

  pub coupled : (p i : ℕ) → (world_at n q l p).down i ≡ false → place_of ((world_at n q l p).images i).memory ≡ place_at n q l i p
  unfolding beginning started start nowhere moved arrive
  coupled zero i h = ap (λ w. place_of (w.images i).memory) (world_at_start n q l) ∙ sym (place_at_start n q l i)
  coupled (suc p) i h = go (turn n q l p i) (coupled p i)
    where
      memory : Server
      memory = ((world_at n q l p).images i).memory

      store : Server
      store = ((world_at n q l p).images i).store

      images : Images
      images = (world_at n q l p).images i

      refusal : (e : List ℕ) (k z : ℕ) → at l p ≡ some (event i e k) → step (source_of images e) e ≡ Outcome.refused z
          → ((world_at n q l p).down i ≡ false → place_of memory ≡ place_at n q l i p) → Source n q l p i e
          → place_of memory ≡ moved (heard_at n q l p i e) (place_at n q l i p)
      refusal e k z x a f (from_store s o m) = absurd (recovery_taken _ z (answer_refused store e recovery z (ap (λ y. step y e) (sym o) ∙ a) m))
      refusal e k z x a f (from_memory u r o m) =
          f u ∙ refused_place p i k z e memory x (standing n q l i p).memory (f u) r m (ap (λ y. step y e) (sym o) ∙ a) _ refl

      acting : (e : List ℕ) (t : Server) (bs : List (List ℕ)) (b : Bool) (g : List Action) → step (source_of images e) e ≡ taken t bs b g
          → ((world_at n q l p).down i ≡ false → place_of memory ≡ place_at n q l i p) → Source n q l p i e
          → place_of t ≡ moved (heard_at n q l p i e) (place_at n q l i p)
      acting e t bs b g a f (from_store s o m) =
          taken_place store e t bs b g (says recovery) _ (ap (λ y. step y e) (sym o) ∙ a) m refl ∙ ap (λ y. moved y (place_at n q l i p)) (sym s)
      acting e t bs b g a f (from_memory u r o m) = taken_place memory e t bs b g _ _ (ap (λ y. step y e) (sym o) ∙ a) m (f u)

      go : Turn n q l p i → ((world_at n q l p).down i ≡ false → place_of memory ≡ place_at n q l i p)
          → place_of ((world_at n q l (suc p)).images i).memory ≡ place_at n q l i (suc p)
      go (rests o m c d) f = ap (λ x. place_of x.memory) m ∙ f (sym d ∙ h) ∙ sym c
      go (crashes x m c d) f = not_both (sym h ∙ d)
      go (saves x m c d) f = ap (λ y. place_of y.memory) m ∙ f (sym d ∙ h) ∙ sym c
      go (refuses e k z x a m c d) f =
          ap (λ y. place_of y.memory) m ∙ refusal e k z x a f (source_of_event n q l p i e A k x f) ∙ sym c
      go (acts e k t bs b g x a m c d) f =
          ap (λ y. place_of y.memory) m ∙ acting e t bs b g a f (source_of_event n q l p i e A k x f) ∙ sym c

  -- The state that an event gets.
  pub source : (p i k : ℕ) (e : List ℕ) → at l p ≡ some (event i e k) → Source n q l p i e
  source p i k e h = source_of_event n q l p i e A k h (coupled p i)

  -- A server that is up and refuses an event keeps its configuration.
  pub refusal_stays : (p i k z : ℕ) (e : List ℕ) → at l p ≡ some (event i e k) → (world_at n q l p).down i ≡ false → is_recovery (heard_at n q l p i e) ≡ false
      → step ((world_at n q l p).images i).memory e ≡ Outcome.refused z → moved (heard_at n q l p i e) (place_at n q l i p) ≡ place_at n q l i p
  refusal_stays p i k z e h u r a =
      sym
      (refused_place p i k z e _ h (standing n q l i p).memory (coupled p i u) r
      (reads_alike n q l p i e _ (numbers n q i l p).memory (coupled p i u)) a _ refl)
