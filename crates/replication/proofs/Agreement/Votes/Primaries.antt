-- The primary half of demand 3: two primary components are equal exactly when their indexes are; every last primary known anywhere is one of them.
use Prim.Native.Nat.{ℕ, ◌<◌}
use mathlib.Core.Path.{◌≡◌, refl, sym, ap, subst, ◌∙◌}
use mathlib.Core.Bool.{Bool, true}
use mathlib.Core.List.{List}
use mathlib.Core.Logic.{◌⊎◌, inl, inr}
use mathlib.Core.Option.{some}
use native.Mathlib.Omega.{arith}
use Rattle.base.proofs.TestLaws.{not_both}
use Rattle.base.specs.Lists.{at}
use Rattle.base.proofs.AtLaws.{some_same}
use Rattle.format.specs.Types.{Action, Primary, recovery, says}
use Rattle.replication.specs.Machine.Types.{Configuration, Server, Outcome, taken, with_white}
use Rattle.replication.specs.Machine.Rules.{rule_for}
use Rattle.replication.specs.Machine.Step.{step, installs_by, installs_on}
use Rattle.replication.specs.Machine.Step as S
use Rattle.replication.specs.Images.{is_recovery, source_of, arrive}
use Rattle.replication.specs.Runs.Run.{event, Run, world_at, heard_at}
use Rattle.replication.proofs.Runs.Roomy.{Roomy as Allowed}
use Rattle.replication.specs.Runs.Claim.{IsPrimary, of_start, of_install, PrimariesAgree}
use Rattle.replication.proofs.Runs.Places.{event_not_store, of_event, event_entry, event_not_crash}
use Rattle.replication.proofs.Runs.Coupling.{Source, from_store, from_memory, source}
use Rattle.replication.proofs.Runs.AllowedTurns.{memory_at, store_at, Acts, Refuses, AllowedTurn, rests, crashes, saves, refuses, recovers, acts, allowed_turn}
use Rattle.replication.proofs.Agreement.Terms.{Image, in_store, InstallsAt, installed, ExchangeFacts}
use Rattle.replication.proofs.Agreement.Votes.Events.{installer_configured}
use Rattle.replication.proofs.Agreement.Votes.Known as K
use Rattle.replication.proofs.Agreement.Votes.Known.{start_primary, KnownPrimary, known_primary, image_known}
use Rattle.replication.proofs.Agreement.Votes.Attempts.{installed_index}
use Rattle.replication.proofs.Agreement.Votes.Unique.{unique_install}

module _ {n q : ℕ} {l : Run} (A : Allowed n q l) where
  -- The primary a is what some server installs.
  pub record Installed (a : Primary) : Type 0 where
    pub place : ℕ
    pub server : ℕ
    pub configuration : Configuration
    pub install : InstallsAt n q l place server configuration
    pub same : installed n q l install ≡ a

  -- Whether an event that a running server takes installs, by its bytes and by its rule.
  installs_alike : (p i : ℕ) (x : Acts n q l p i) → S.installs (source_of ((world_at n q l p).images i) x.bytes) x.bytes ≡ installs_by (some x.by.rule) (memory_at n q l p i)
  unfolding S.installs installs_on is_recovery
  installs_alike p i x = go (source A p i x.sent x.bytes x.here)
    where
      memory : Server
      memory = memory_at n q l p i

      go : Source n q l p i x.bytes → S.installs (source_of ((world_at n q l p).images i) x.bytes) x.bytes ≡ installs_by (some x.by.rule) memory
      go (from_store s o r) = not_both (sym x.running ∙ ap is_recovery (sym x.heard ∙ s))
      go (from_memory u r o m) = ap (λ z. S.installs z x.bytes) o ∙ ap (installs_on memory) x.by.reads ∙ ap (λ z. installs_by z memory) x.by.ruled

  -- A refused event has no outcome, and a recovery installs nothing.
  not_refused : (p i k : ℕ) (e : List ℕ) (t : Server) (r : List (List ℕ)) (b : Bool) (g : List Action) → at l p ≡ some (event i e k)
      → arrive ((world_at n q l p).images i) e ≡ taken t r b g → (x : Refuses n q l p i) → e ≡ x.bytes → Source n q l p i x.bytes → ⊥
  unfolding arrive is_recovery
  not_refused p i k e t r b g h a x f (from_store s o m) = not_both (sym x.running ∙ ap is_recovery s)
  not_refused p i k e t r b g h a x f (from_memory u m o v) =
      no_outcome (sym a ∙ ap (arrive ((world_at n q l p).images i)) f ∙ ap (λ z. step z x.bytes) o ∙ x.refusal)
    where
      no_outcome : {k : ℕ} → taken t r b g ≡ Outcome.refused k → ⊥
      no_outcome w = let z : ◌≡◌ {A = ℕ} 0 1 = cc in omega arith

  not_recovered : (p i k : ℕ) (e : List ℕ) → S.installs (source_of ((world_at n q l p).images i) e) e ≡ true → heard_at n q l p i e ≡ says recovery → Source n q l p i e → ⊥
  unfolding S.installs installs_on rule_for installs_by is_recovery
  not_recovered p i k e s f (from_store m o r) =
      not_both (sym (ap (λ z. S.installs z e) o ∙ ap (installs_on (store_at n q l p i)) r) ∙ s)
  not_recovered p i k e s f (from_memory u m o v) = not_both (sym m ∙ ap is_recovery f)

  installed_by_lem : (p i k : ℕ) (e : List ℕ) (t : Server) (r : List (List ℕ)) (b : Bool) (g : List Action) → at l p ≡ some (event i e k)
      → arrive ((world_at n q l p).images i) e ≡ taken t r b g → S.installs (source_of ((world_at n q l p).images i) e) e ≡ true → Installed t.votes.last
  installed_by_lem p i k e t r b g h a s = go (allowed_turn A p i)
    where
      outcome_after : {u : Server} {rs : List (List ℕ)} {c : Bool} {z : List Action} → taken u rs c z ≡ taken t r b g → u ≡ t
      outcome_after w = cc

      go : AllowedTurn n q l p i → Installed t.votes.last
      go (rests o m c d) = absurd (o (of_event h))
      go (crashes x m c d) = event_not_crash (some_same (sym h ∙ x))
      go (saves x m c d u) = event_not_store (some_same (sym h ∙ x))
      go (refuses x) =
          let f = (event_entry (some_same (sym h ∙ x.here))).1 in
          absurd (not_refused p i k e t r b g h a x f (source A p i x.sent x.bytes x.here))
      go (recovers x) =
          let f = (event_entry (some_same (sym h ∙ x.comes.here))).1 in
          absurd (not_recovered p i k e s (ap (heard_at n q l p i) f ∙ x.comes.heard) (source A p i k e h))
      go (acts x) =
          let f = (event_entry (some_same (sym x.here ∙ h))).1 in
          let y = sym (installs_alike p i x) ∙ ap (λ z. S.installs (source_of ((world_at n q l p).images i) z) z) f ∙ s in
          let c = installer_configured A x y in
          record {
            place = p;
            server = i;
            configuration = c.0;
            install = record { acts = x; installs = y; here = c.1 };
            same = ap (λ z. z.votes.last) (outcome_after (sym x.arrives ∙ ap (arrive ((world_at n q l p).images i)) f ∙ a));
          }

  pub is_installed : (a : Primary) → IsPrimary n q l a → (a ≡ start_primary n) ⊎ Installed a
  is_installed a of_start = inl refl
  is_installed a (of_install p i k e t r b g h x s) = inr (installed_by_lem p i k e t r b g h x s)

  pub installed_is : {p i : ℕ} {c : Configuration} (x : InstallsAt n q l p i c) → IsPrimary n q l (installed n q l x)
  installed_is {p} {i} x =
      of_install p i x.acts.sent x.acts.bytes (with_white x.acts.white x.acts.after) x.acts.written x.acts.stores x.acts.greened x.acts.here x.acts.arrives
      (installs_alike p i x.acts ∙ x.installs)

  module _ (X : ExchangeFacts n q l) where
    pub primaries_agree : (a b : Primary) → IsPrimary n q l a → IsPrimary n q l b → PrimariesAgree a b
    primaries_agree a b x y = (λ e. ap (λ z. z.index) e, go (is_installed a x) (is_installed b y))
      where
        go : (a ≡ start_primary n) ⊎ Installed a → (b ≡ start_primary n) ⊎ Installed b → a.index ≡ b.index → a ≡ b
        go (inl f) (inl g) e = f ∙ sym g
        go (inl f) (inr v) e = absurd (omega (arith, ap (λ z. z.index) f, ap (λ z. z.index) v.same, installed_index v.install))
        go (inr u) (inl g) e = absurd (omega (arith, ap (λ z. z.index) g, ap (λ z. z.index) u.same, installed_index u.install))
        go (inr u) (inr v) e = sym u.same ∙ (unique_install A X u.install v.install (ap (λ z. z.index) u.same ∙ e ∙ ap (λ z. z.index) (sym v.same))).1 ∙ v.same

    known_is : {p i : ℕ} {a : Primary} → KnownPrimary A p i a → IsPrimary n q l a
    known_is (K.of_start e) = subst (λ z. IsPrimary n q l z) (sym e) of_start
    known_is (K.of_install r j w e c d x h g t u o z) = subst (λ z. IsPrimary n q l z) g (installed_is x)

    pub known_primaries : (p i : ℕ) → i < n → IsPrimary n q l (memory_at n q l p i).votes.last × IsPrimary n q l (store_at n q l p i).votes.last
    known_primaries p i h =
        let s : Image n q l p i (store_at n q l p i) = in_store in
        (known_is (known_primary A X p i), known_is (image_known A X s))
