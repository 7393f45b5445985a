-- A server's stay in com(c): from taking c until its next regular configuration, crash or recovery.
use Prim.Native.Nat.{ℕ, zero, suc}
use mathlib.Core.Path.{◌≡◌, refl, sym, ap, subst, ◌∙◌}
use mathlib.Core.Bool.{Bool, true, false}
use mathlib.Core.Option.{some}
use Rattle.base.proofs.TestLaws.{not_both}
use Rattle.base.proofs.AtLaws.{none_some, some_same}
use Rattle.format.specs.Types.{regular}
use Rattle.replication.specs.Machine.Types.{Configuration, Membership}
use Rattle.replication.specs.Runs.Run.{Run, nowhere, world_at, place_at}
use Rattle.replication.specs.Runs.Happenings.{is_message, Comes, Falls, by_crash, by_recovery, Takes}
use Rattle.replication.proofs.Runs.Roomy.{Roomy as Allowed}
use Rattle.replication.proofs.Runs.Places.{place_at_start}
use Rattle.replication.proofs.Runs.Shifts as S
use Rattle.replication.proofs.Runs.Numbers.{numbers}
use Rattle.replication.proofs.Runs.Coupling.{coupled}
use Rattle.replication.proofs.Runs.AllowedTurns.{memory_at, Acts, Refuses, AllowedTurn, rests, crashes, saves, refuses, recovers, acts, allowed_turn}
use Rattle.replication.proofs.Runs.Sending.{regular_acts}
use Rattle.replication.proofs.Runs.Memberships as M
use Rattle.replication.proofs.Runs.Memberships.{entered_in, MembershipStep, membership_step}

-- A regular configuration is entered.
pub regular_enters : {n : ℕ} {m o : Membership} {i s : ℕ} → MembershipStep n m (regular i s) o → o ≡ entered_in n (record { id = i; set = s }) m
unfolding is_message
regular_enters {n = n} {m = m} {i = i} {s = s} (M.attempts _ o x5 _) = elim x5 [ ]
regular_enters {n = n} {m = m} {i = i} {s = s} (M.settles _ o x6 _) = elim x6 [ ]
regular_enters (M.ignores r e f) = not_both e
regular_enters (M.joins c o e j) = refl

module _ (n q : ℕ) (l : Run) where
  abbrev pub membership_at : ℕ → ℕ → Membership
  membership_at p i = (memory_at n q l p i).membership

  -- What holds after taking c, and from each place of the stay to the next, holds throughout the stay.
  pub in_stay : (i : ℕ) (c : Configuration) (P : ℕ → Type 0) → ((t : ℕ) → Takes n q l t i c → P (suc t))
      → ((x : ℕ) → (place_at n q l i x).regular ≡ some c → (place_at n q l i (suc x)).regular ≡ some c → (Falls n q l x i → ⊥)
      → ((d : Configuration) → Takes n q l x i d → ⊥) → P x → P (suc x))
      → (p : ℕ) → (place_at n q l i p).regular ≡ some c → P p
  unfolding nowhere
  in_stay i c P base step zero e = none_some (sym (ap (λ x. x.regular) (place_at_start n q l i)) ∙ e)
  in_stay i c P base step (suc p) e = go (S.shift n q l p i) (in_stay i c P base step p)
    where
      go : S.Shift n q l p i → ((place_at n q l i p).regular ≡ some c → P p) → P (suc p)
      go (S.to_regular d t m) k =
          let z : d ≡ c = some_same (sym (ap (λ x. x.regular) m) ∙ e) in
          base p (subst (λ w. Takes n q l p i w) z t)
      go (S.to_transitional s t m) k =
          let z = sym (ap (λ x. x.regular) m) ∙ e in
          step p z e (λ f. S.transitional_no_fall t f) (λ d y. S.transitional_not_regular t y) (k z)
      go (S.to_nowhere f m) k = none_some (sym (ap (λ x. x.regular) m) ∙ e)
      go (S.stays u v m) k =
          let z = sym (ap (λ x. x.regular) m) ∙ e in
          step p z e (λ f. S.stays_no_fall u v f) (λ d y. S.stays_no_regular u y) (k z)

module _ {n q : ℕ} {l : Run} (A : Allowed n q l) where
  -- A server that is down has no configuration.
  down_nowhere : (p i : ℕ) → (world_at n q l p).down i ≡ true → place_at n q l i p ≡ nowhere
  down_nowhere zero i h = place_at_start n q l i
  down_nowhere (suc p) i h = go (allowed_turn A p i) (down_nowhere p i)
    where
      go : AllowedTurn n q l p i → ((world_at n q l p).down i ≡ true → place_at n q l i p ≡ nowhere) → place_at n q l i (suc p) ≡ nowhere
      go (rests o m c d) k = c ∙ k (sym d ∙ h)
      go (crashes x m c d) k = c
      go (saves x m c d u) k = c ∙ k (sym d ∙ h)
      go (refuses x) k = not_both (sym x.down_next ∙ h)
      go (recovers x) k = x.place_next
      go (acts x) k = not_both (sym x.down_next ∙ h)

  -- A server that has a configuration is up.
  pub placed_up : (p i : ℕ) (c : Configuration) → (place_at n q l i p).regular ≡ some c → (world_at n q l p).down i ≡ false
  unfolding nowhere
  placed_up p i c e = go ((world_at n q l p).down i) refl
    where
      go : (b : Bool) → (world_at n q l p).down i ≡ b → (world_at n q l p).down i ≡ false
      go false h = h
      go true h = none_some (sym (ap (λ x. x.regular) (down_nowhere p i h)) ∙ e)

  -- The machine has the configuration that the run has given it.
  pub stay_configuration : (p i : ℕ) (c : Configuration) → (place_at n q l i p).regular ≡ some c → (membership_at n q l p i).configuration ≡ some c
  stay_configuration p i c e = ap (λ x. x.regular) (coupled A p i (placed_up p i c e)) ∙ e

  pub stay_transitional : (p i : ℕ) (c : Configuration) → (place_at n q l i p).regular ≡ some c
      → (membership_at n q l p i).transitional ≡ (place_at n q l i p).transitional
  stay_transitional p i c e = ap (λ x. x.transitional) (coupled A p i (placed_up p i c e))

  -- What an event that a server takes does to its membership part.
  pub acts_membership : (p i : ℕ) (x : Acts n q l p i) → MembershipStep n (membership_at n q l p i) x.by.event (membership_at n q l (suc p) i)
  acts_membership p i x =
      subst (λ k. MembershipStep k (membership_at n q l p i) x.by.event (membership_at n q l (suc p) i)) (numbers n q i l p).memory.servers
      (subst (λ s. MembershipStep (memory_at n q l p i).servers (membership_at n q l p i) x.by.event s.membership) (sym x.memory_next) (membership_step _ x.moves))

  -- Taking c enters it.
  pub entering_membership : (p i : ℕ) (c : Configuration) → Takes n q l p i c
      → membership_at n q l (suc p) i ≡ entered_in n c (membership_at n q l p i)
  entering_membership p i c t =
      let x = regular_acts A p i c t in
      regular_enters (subst (λ r. MembershipStep n (membership_at n q l p i) r (membership_at n q l (suc p) i)) x.1 (acts_membership p i x.0))

  -- A place of a stay: nothing for this server's membership part; an event refused; an event taken that is no regular configuration and no recovery.
  pub data StayStep (p i : ℕ) : Type 0 where
    rested : membership_at n q l (suc p) i ≡ membership_at n q l p i → StayStep p i
    refused : Refuses n q l p i → membership_at n q l (suc p) i ≡ membership_at n q l p i → StayStep p i
    took : (x : Acts n q l p i) → Comes n q l p i x.by.event → MembershipStep n (membership_at n q l p i) x.by.event (membership_at n q l (suc p) i)
        → StayStep p i

  pub stay_step : (p i : ℕ) → (Falls n q l p i → ⊥) → StayStep p i
  stay_step p i f = go (allowed_turn A p i)
    where
      go : AllowedTurn n q l p i → StayStep p i
      go (saves x m c d u) = rested (ap (λ y. y.memory.membership) m)
      go (rests o m c d) = rested (ap (λ x. x.memory.membership) m)
      go (crashes x m c d) = absurd (f (by_crash x))
      go (refuses x) = refused x (ap (λ y. y.memory.membership) x.images_next)
      go (recovers x) = absurd (f (by_recovery x.comes))
      go (acts x) = took x (record { bytes = x.bytes; sent = x.sent; here = x.here; heard = x.heard }) (acts_membership p i x)
