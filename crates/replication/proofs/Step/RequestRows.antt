-- Row 3 is about requests only, and applies no sooner than a bound is reached.
use Prim.Native.Nat.{ℕ, ◌+◌, ◌≤◌}
use mathlib.Core.Path.{◌≡◌, refl, ap, subst, ◌∙◌}
use mathlib.Core.Bool.{Bool, true, false, not}
use mathlib.Core.List.{List}
use mathlib.Core.Logic.{◌↔◌, ◌⊎◌, inl, inr}
use mathlib.Core.Option.{Option, none, some}
use native.Mathlib.Omega.{arith}
use lib.ListN.{length}
use Rattle.base.specs.Tests.{◌and◌, ◌<?◌}
use Rattle.base.proofs.TestLaws.{not_both, lt_no, lt_fails, not_holds, Known, holds, fails, known}
use Rattle.format.specs.Limits.{most_number_limit}
use Rattle.format.specs.Types.{Record, action, retransmission, state, cpc, regular, transitional, request, recovery}
use Rattle.replication.specs.Machine.Types.{Server}
use Rattle.replication.specs.Machine.Colours.{cut, places_of, unwhite}
use Rattle.replication.specs.Machine.Requests.{unwhite_own, quota_left}
use Rattle.replication.specs.Machine.Rules.{within_quota}
use Rattle.replication.specs.Machine.WellFormed.{queue, well_formed}
use Rattle.replication.proofs.WellFormed.Clauses.{WellFormed}
use Rattle.replication.proofs.WellFormed.Facts.{well_formed_facts}
use Rattle.replication.proofs.WellFormed.OwnList.{own_length}
use Rattle.replication.specs.Laws.Rows.{record_of, tested, row3}

module _ (s : Server) (e : List ℕ) where
  of_request_lem : (f : Record → Bool) (X : Type 0) → ((p : List ℕ) → record_of s e ≡ some (request p) → f (request p) ≡ true → X)
      → ((r : Record) → f r ≡ true → (p : List ℕ) × (r ≡ request p)) → tested f (record_of s e) ≡ true → X
  unfolding tested
  of_request_lem f X k only h = go (record_of s e) refl h
    where
      go : (x : Option Record) → record_of s e ≡ x → tested f x ≡ true → X
      go none q i = not_both i
      go (some r) q i =
          let p = only r i in
          k p.0 (q ∙ ap (λ y. some y) p.1) (subst (λ y. f y ≡ true) p.1 i)

  quota_request : (r : Record) → not (within_quota s r) ≡ true → (p : List ℕ) × (r ≡ request p)
  unfolding within_quota
  quota_request (action a) h = not_both h
  quota_request (retransmission k p a) h = not_both h
  quota_request (state x) h = not_both h
  quota_request (cpc k i) h = not_both h
  quota_request (regular i t) h = not_both h
  quota_request (transitional t) h = not_both h
  quota_request (request p) h = (p, refl)
  quota_request recovery h = not_both h

  -- One of the two bounds is reached: the quota, by own actions that are not white here or on the own list; the indexes.
  abbrev AtBound : Type 0
  AtBound = (s.quota ≤ unwhite_own s) ⊎ (most_number_limit ≤ s.log.numbered)

  at_bound : not (quota_left s) ≡ true → AtBound
  unfolding quota_left ◌and◌
  at_bound h = go (known (unwhite_own s <? s.quota))
    where
      go : Known (unwhite_own s <? s.quota) → AtBound
      go (holds t) = inr (lt_fails _ _ (not_holds _ (subst (λ b. not (b and s.log.numbered <? most_number_limit) ≡ true) t h)))
      go (fails t) = inl (lt_fails _ _ t)

  bound_left : AtBound → not (quota_left s) ≡ true
  unfolding quota_left ◌and◌
  bound_left (inl h) = ap (λ b. not (b and s.log.numbered <? most_number_limit)) (lt_no _ _ h)
  bound_left (inr h) = go (unwhite s.me s.white s.log + length s.log.own <? s.quota)
    where
      go : (b : Bool) → not (b and s.log.numbered <? most_number_limit) ≡ true
      go true = ap not (lt_no _ _ h)
      go false = refl

  -- Row 3: a request, and a bound is reached.
  pub quota_row : (row3 s e ≡ true) ↔ ((p : List ℕ) × (record_of s e ≡ some (request p)) × AtBound)
  unfolding row3 within_quota tested
  quota_row = (
    λ h. of_request_lem (λ r. not (within_quota s r)) _ (λ p q f. (p, q, at_bound f)) quota_request h,
    λ x. rw x.1 (bound_left x.2),
  )

  -- In a well-formed state none is passed: what is numbered and not white is the quota, or the last index is given.
  pub quota_exact : well_formed s ≡ true → AtBound → (unwhite s.me s.white s.log + length s.log.own ≡ s.quota) ⊎ (s.log.numbered ≡ most_number_limit)
  unfolding unwhite places_of queue cut
  quota_exact w h = go h
    where
      f : WellFormed s
      f = well_formed_facts s w

      go : AtBound → (unwhite s.me s.white s.log + length s.log.own ≡ s.quota) ⊎ (s.log.numbered ≡ most_number_limit)
      go (inl a) = inl (omega (arith, a, own_length s.me s.log f.own_list, f.own_list.numbered, f.places.own_room))
      go (inr a) = inr (omega (arith, a, f.log.numbered))
