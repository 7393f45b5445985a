-- The list of a server's deliveries: what is in it, how it grows, and that it rises in time.
use Prim.Native.Nat.{ℕ, zero, suc, ◌<◌}
use mathlib.Core.Path.{◌≡◌, refl, sym, ap, subst, ◌∙◌}
use mathlib.Core.Bool.{Bool, true, false, not}
use mathlib.Core.List.Memᴰ
use mathlib.Core.List.{List, [], ◌∷◌, ◌++◌, map, map-append, append-nil, Memᴰ}
use mathlib.Core.Logic.{◌⊎◌, inl, inr}
use mathlib.Core.Option.{Option, none, some}
use native.Mathlib.Omega.{arith}
use native.Mathlib.Decide.{dec_lt}
use Rattle.base.specs.Tests.{pick}
use Rattle.base.proofs.TestLaws.{not_both, not_holds, and_holds, both_yes, eq_yes, eq_holds, Known, holds, fails, known}
use Rattle.base.specs.Lists.{at, is_there}
use Rattle.base.proofs.Rising.{Rises, rises_more}
use Rattle.format.specs.Types.{Record, Reading, says, refused}
use Rattle.replication.specs.Machine.Types.{Configuration}
use Rattle.replication.specs.Runs.Run.{Entry, event, crash, store, Run, Place, place_at}
use Rattle.replication.specs.Runs.Happenings.{Message, is_message}
use Rattle.replication.proofs.Runs.Roomy.{Roomy as Allowed}
use Rattle.replication.proofs.Runs.DeliveryFacts.{is_configuration, within, within_regular, says_message, delivers_by, delivers_at, delivery_places, delivered}
use Rattle.replication.proofs.Runs.Shifts.{comes_of}
use Rattle.replication.proofs.Runs.Deliveries.{Delivery}
use Rattle.replication.proofs.Runs.Order.{in_regular_of, time, time_rises}

-- ---- the tests of a place

is_configuration_lem : (c : Configuration) (d : Option Configuration) → is_configuration c d ≡ true → d ≡ some c
unfolding is_configuration
is_configuration_lem c none e = not_both e
is_configuration_lem c (some d) e = let h = and_holds _ _ e in λ j. some (record { id = eq_holds _ _ h.0 j; set = eq_holds _ _ h.1 j })

configuration_is : (c : Configuration) (d : Option Configuration) → d ≡ some c → is_configuration c d ≡ true
unfolding is_configuration
configuration_is c d e = ap (is_configuration c) e ∙ both_yes _ _ (eq_yes _ _ refl) (eq_yes _ _ refl)

pub within_holds : (c : Configuration) (x : Place) → within c x ≡ true → x.regular ≡ some c
unfolding within
within_holds c x e = is_configuration_lem c x.regular e

pub within_yes : (c : Configuration) (x : Place) → x.regular ≡ some c → within c x ≡ true
unfolding within
within_yes c x e = configuration_is c x.regular e

not_there : {A : Type 0} (x : Option A) → is_there x ≡ false → x ≡ none
unfolding is_there
not_there none e = refl
not_there (some a) e = not_both (sym e)

pub within_regular_holds : (c : Configuration) (x : Place) → within_regular c x ≡ true → x ≡ in_regular_of c
unfolding within_regular
within_regular_holds c x e =
    let h = and_holds _ _ e in
    let r = within_holds c x h.0 in
    let t = not_there x.transitional (not_holds _ h.1) in
    λ j. record { regular = r j; transitional = t j }

pub within_regular_yes : (c : Configuration) (x : Place) → x ≡ in_regular_of c → within_regular c x ≡ true
unfolding within_regular is_there
within_regular_yes c x e = both_yes _ _ (within_yes c x (ap (λ y. y.regular) e)) (ap (λ y. not (is_there y.transitional)) e)

-- ---- the list

says_message_lem : (x : Reading Record) → says_message x ≡ true → (r : Record) × (x ≡ says r) × (is_message r ≡ true)
unfolding says_message
says_message_lem (says r) e = (r, refl, e)
says_message_lem (refused k) e = not_both e

one_more_lem : {A : Type 0} (b : Bool) (xs : List A) (x : A) → b ≡ true → xs ++ pick b (x ∷ []) [] ≡ xs ++ (x ∷ [])
unfolding pick
one_more_lem true xs x e = refl
one_more_lem false xs x e = not_both e

no_more : {A : Type 0} (b : Bool) (xs : List A) (x : A) → b ≡ false → xs ++ pick b (x ∷ []) [] ≡ xs
unfolding pick
no_more true xs x e = not_both (sym e)
no_more false xs x e = append-nil xs

module _ {n q : ℕ} {l : Run} (A : Allowed n q l) (t : Place → Bool) (i : ℕ) where
  pub delivers_holds : (p : ℕ) → delivers_at n q l t i p ≡ true → Delivery A p i (A.allowed.source p) × (t (place_at n q l i p) ≡ true)
  unfolding delivers_at delivers_by
  delivers_holds p h = go (at l p) refl h
    where
      go : (x : Option Entry) → at l p ≡ x → delivers_by n q l t i p x ≡ true → Delivery A p i (A.allowed.source p) × (t (place_at n q l i p) ≡ true)
      go none e h = not_both h
      go (some (crash j)) e h = not_both h
      go (some (store j)) e h = not_both h
      go (some (event j f k)) e h =
          let x = and_holds _ _ h in
          let y = and_holds _ _ x.1 in
          let z = says_message_lem _ y.0 in
          let s : j ≡ i = eq_holds _ _ x.0 in (
            record { what = z.0; comes = record { bytes = f; sent = k; here = subst (λ w. at l p ≡ some (event w f k)) s e; heard = z.1 }; message = z.2; which = refl },
            y.1,
          )

  pub delivers_yes : (p : ℕ) (m : Message) → Delivery A p i m → t (place_at n q l i p) ≡ true → delivers_at n q l t i p ≡ true
  unfolding delivers_at delivers_by says_message
  delivers_yes p m d h =
      ap (delivers_by n q l t i p) d.comes.here ∙ both_yes _ _ (eq_yes i i refl) (both_yes _ _ (ap says_message d.comes.heard ∙ d.message) h)

  -- ---- how it grows

  places_yes : (p : ℕ) → delivers_at n q l t i p ≡ true → delivery_places n q l t i (suc p) ≡ delivery_places n q l t i p ++ (p ∷ [])
  unfolding delivery_places
  places_yes p e = one_more_lem (delivers_at n q l t i p) (delivery_places n q l t i p) p e

  places_no : (p : ℕ) → delivers_at n q l t i p ≡ false → delivery_places n q l t i (suc p) ≡ delivery_places n q l t i p
  unfolding delivery_places
  places_no p e = no_more (delivers_at n q l t i p) (delivery_places n q l t i p) p e

  pub places_more : (p : ℕ) (m : Message) → Delivery A p i m → t (place_at n q l i p) ≡ true
      → delivery_places n q l t i (suc p) ≡ delivery_places n q l t i p ++ (p ∷ [])
  places_more p m d h = places_yes p (delivers_yes p m d h)

  pub places_same : (p : ℕ) → ((m : Message) → Delivery A p i m → t (place_at n q l i p) ≡ true → ⊥)
      → delivery_places n q l t i (suc p) ≡ delivery_places n q l t i p
  places_same p f = go (known (delivers_at n q l t i p))
    where
      go : Known (delivers_at n q l t i p) → delivery_places n q l t i (suc p) ≡ delivery_places n q l t i p
      go (holds e) = let h = delivers_holds p e in absurd (f _ h.0 h.1)
      go (fails e) = places_no p e

  map_more : (p : ℕ) (xs ys : List ℕ) → ys ≡ xs ++ (p ∷ []) → map A.allowed.source ys ≡ map A.allowed.source xs ++ (A.allowed.source p ∷ [])
  map_more p xs ys e = ap (map A.allowed.source) e ∙ map-append A.allowed.source xs (p ∷ [])

  -- A delivery adds its message; nothing else does.
  pub delivered_more : (p : ℕ) (m : Message) → Delivery A p i m → t (place_at n q l i p) ≡ true
      → delivered n q l A.allowed.source t i (suc p) ≡ delivered n q l A.allowed.source t i p ++ (m ∷ [])
  unfolding delivered
  delivered_more p m d h = map_more p (delivery_places n q l t i p) (delivery_places n q l t i (suc p)) (places_more p m d h) ∙ ap (λ z. delivered n q l A.allowed.source t i p ++ (z ∷ [])) d.which

  pub delivered_same : (p : ℕ) → ((m : Message) → Delivery A p i m → t (place_at n q l i p) ≡ true → ⊥)
      → delivered n q l A.allowed.source t i (suc p) ≡ delivered n q l A.allowed.source t i p
  unfolding delivered
  delivered_same p f = ap (map A.allowed.source) (places_same p f)

  -- ---- what is in it

  pub record Listed (p x : ℕ) : Type 0 where
    pub earlier : x < p
    pub delivery : Delivery A x i (A.allowed.source x)
    pub there : t (place_at n q l i x) ≡ true

  pub listed : (p x : ℕ) → Memᴰ x (delivery_places n q l t i p) → Listed p x
  unfolding delivery_places
  listed zero x m = absurd (Memᴰ.not-nil m)
  listed (suc p) x m = go (known (delivers_at n q l t i p)) (λ k. listed p x k)
    where
      longer : Listed p x → Listed (suc p) x
      longer h = record { earlier = omega (arith, h.earlier); delivery = h.delivery; there = h.there }

      go : Known (delivers_at n q l t i p) → (Memᴰ x (delivery_places n q l t i p) → Listed p x) → Listed (suc p) x
      go (holds e) f = at (Memᴰ.append_cases (delivery_places n q l t i p) (subst (Memᴰ x) (places_yes p e) m))
        where
          at : Memᴰ x (delivery_places n q l t i p) ⊎ Memᴰ x (p ∷ []) → Listed (suc p) x
          at (inl k) = longer (f k)
          at (inr k) =
              let s : x ≡ p = Memᴰ.eq_of_singleton k in
              let h = delivers_holds p e in
              record {
                earlier = omega arith;
                delivery = subst (λ z. Delivery A z i (A.allowed.source z)) (sym s) h.0;
                there = subst (λ z. t (place_at n q l i z) ≡ true) (sym s) h.1;
              }
      go (fails e) f = longer (f (subst (Memᴰ x) (places_no p e) m))

  pub in_list : (p x : ℕ) (m : Message) → Delivery A x i m → t (place_at n q l i x) ≡ true → x < p → Memᴰ x (delivery_places n q l t i p)
  unfolding delivery_places
  in_list zero x m d h e = absurd (omega arith)
  in_list (suc p) x m d h e = go (dec_lt x p) (λ k. in_list p x m d h k)
    where
      go : Dec (x < p) → (x < p → Memᴰ x (delivery_places n q l t i p)) → Memᴰ x (delivery_places n q l t i (suc p))
      go (yes k) f = Memᴰ.append_left (pick (delivers_at n q l t i p) (p ∷ []) []) (f k)
      go (no k) f =
          let s : x ≡ p = omega arith in
          subst (Memᴰ x) (sym (places_yes p (subst (λ z. delivers_at n q l t i z ≡ true) s (delivers_yes x m d h))))
          (Memᴰ.append_right (delivery_places n q l t i p) (Memᴰ.head s))

  -- It rises in time.
  pub places_rise : (p : ℕ) → Rises (time A) (delivery_places n q l t i p)
  unfolding delivery_places
  places_rise zero = tt
  places_rise (suc p) = go (known (delivers_at n q l t i p)) (places_rise p)
    where
      go : Known (delivers_at n q l t i p) → Rises (time A) (delivery_places n q l t i p) → Rises (time A) (delivery_places n q l t i (suc p))
      go (holds e) f =
          subst (Rises (time A)) (sym (places_yes p e))
          (rises_more (time A) _ p f
          (λ b m. let h = listed p b m in time_rises A (comes_of h.delivery.comes) (comes_of (delivers_holds p e).0.comes) h.earlier))
      go (fails e) f = subst (Rises (time A)) (sym (places_no p e)) f
