-- Calls one after another, whatever is kept: the places of their entries in the run, and that what is kept before a call is what the entries of the calls
-- before it make one after another.
use Prim.Native.Nat.{ℕ, zero, suc, ◌+◌, ◌≤◌, ◌<◌}
use mathlib.Core.Path.{◌≡◌, refl, sym, ap, subst, ◌∙◌}
use mathlib.Core.List.{[], ◌∷◌, ◌++◌, append-nil}
use mathlib.Core.Option.{Option, none, some, Option-elim}
use native.Mathlib.Omega.{arith}
use native.Mathlib.Decide.{ℕ_discrete}
use lib.ListN.{length, take, length-append}
use lib.Seq.{take_all}
use mathlib.Core.Logic.{◌⊎◌, inl, inr}
use Rattle.base.specs.Tests.{◌≤?◌, pick}
use Rattle.base.proofs.TestLaws.{pick_le, pick_gt}
use Rattle.base.specs.Lists.{at, Begins}
use Rattle.base.proofs.AtLaws.{none_some, at_low, at_there, take_next}
use Rattle.base.proofs.Gathered.{at_first, at_second, at_either}
use Rattle.base.proofs.Prefixes.{begins_refl, begins_append, begins_trans, begins_length}
use Rattle.replication.specs.Runs.Run.{Entry, Run}
use Rattle.burst.specs.Calls.{Call, System, kept_at, ran_to, place_of, ran_by, call_to, call_of}

module _ {K : Type 0} (s : System K) where
  -- ---- one call

  module _ (j : ℕ) where
    pub kept_next : (c : Call) → at s.calls j ≡ some c → kept_at s (suc j) ≡ s.after j (kept_at s j) c
    unfolding kept_at Option-elim
    kept_next c h = ap (λ (y : Option Call). Option-elim y (kept_at s j) (λ u. s.after j (kept_at s j) u)) h

    ran_next : (c : Call) → at s.calls j ≡ some c → ran_to s (suc j) ≡ ran_to s j ++ s.entries j (kept_at s j) c
    unfolding ran_to Option-elim
    ran_next c h = ap (λ (y : Option Call). ran_to s j ++ Option-elim y [] (λ u. s.entries j (kept_at s j) u)) h

    kept_past : at s.calls j ≡ none → kept_at s (suc j) ≡ kept_at s j
    unfolding kept_at Option-elim
    kept_past h = ap (λ (y : Option Call). Option-elim y (kept_at s j) (λ u. s.after j (kept_at s j) u)) h

    ran_past : at s.calls j ≡ none → ran_to s (suc j) ≡ ran_to s j
    unfolding ran_to Option-elim
    ran_past h = ap (λ (y : Option Call). ran_to s j ++ Option-elim y [] (λ u. s.entries j (kept_at s j) u)) h ∙ append-nil (ran_to s j)

    place_next : (c : Call) → at s.calls j ≡ some c → place_of s (suc j) ≡ place_of s j + length (s.entries j (kept_at s j) c)
    unfolding place_of
    place_next c h = ap length (ran_next c h) ∙ length-append (ran_to s j) (s.entries j (kept_at s j) c)

    ran_begins : Begins (ran_to s j) (ran_to s (suc j))
    unfolding ran_to
    ran_begins = begins_append (ran_to s j) _

  -- ---- places rise

  ran_grows : (j r : ℕ) → j ≤ r → Begins (ran_to s j) (ran_to s r)
  ran_grows j zero h = subst (λ (m : ℕ). Begins (ran_to s m) (ran_to s 0)) (let e : 0 ≡ j = omega arith in e) (begins_refl (ran_to s 0))
  ran_grows j (suc r) h = go (ℕ_discrete j (suc r)) (λ l. ran_grows j r l)
    where
      go : Dec (j ≡ suc r) → (j ≤ r → Begins (ran_to s j) (ran_to s r)) → Begins (ran_to s j) (ran_to s (suc r))
      go (yes e) rest = subst (λ (m : ℕ). Begins (ran_to s m) (ran_to s (suc r))) (sym e) (begins_refl (ran_to s (suc r)))
      go (no e) rest = begins_trans _ _ _ (rest (omega arith)) (ran_begins r)

  pub place_rises : (j r : ℕ) → j ≤ r → place_of s j ≤ place_of s r
  unfolding place_of
  place_rises j r h = begins_length _ _ (ran_grows j r h)

  -- ---- the call of a place

  -- A call that has places is there.
  call_there : (j p : ℕ) → place_of s j ≤ p → p < place_of s (suc j) → j < length s.calls
  unfolding place_of
  call_there j p h k = go (at s.calls j) refl
    where
      go : (y : Option Call) → at s.calls j ≡ y → j < length s.calls
      go none e = absurd (omega (arith, h, k, ap length (ran_past j e)))
      go (some c) e = at_low s.calls j c e

  call_to_lem : (j p r : ℕ) → place_of s j ≤ p → p < place_of s (suc j) → j ≤ r → call_to s p r ≡ j
  unfolding call_to
  call_to_lem j p zero h k l = omega arith
  call_to_lem j p (suc r) h k l = go (ℕ_discrete j (suc r)) (λ m. call_to_lem j p r h k m)
    where
      go : Dec (j ≡ suc r) → (j ≤ r → call_to s p r ≡ j) → pick (place_of s (suc r) ≤? p) (suc r) (call_to s p r) ≡ j
      go (yes e) rest = sym (pick_le (place_of s (suc r)) p j _ _ (subst (λ (m : ℕ). place_of s m ≤ p) e h) e)
      go (no e) rest =
          sym (pick_gt (place_of s (suc r)) p j _ _ (omega (arith, k, place_rises (suc j) (suc r) (omega arith))) (sym (rest (omega arith))))

  pub call_of_lem : (j p : ℕ) → place_of s j ≤ p → p < place_of s (suc j) → call_of s p ≡ j
  unfolding call_of
  call_of_lem j p h k = call_to_lem j p (length s.calls) h k (omega (arith, call_there j p h k))

  -- ---- the entries of a call

  module _ (j : ℕ) (c : Call) (h : at s.calls j ≡ some c) where
    abbrev own : Run
    own = s.entries j (kept_at s j) c

    pub entry_at : (m : ℕ) (y : Entry) → at own m ≡ some y → at (ran_by s) (place_of s j + m) ≡ some y
    unfolding ran_by place_of Begins
    entry_at m y e =
        let whole = ran_grows (suc j) (length s.calls) (omega (arith, at_low s.calls j c h)) in
        ap (λ (l : Run). at l (length (ran_to s j) + m)) whole.1
        ∙ at_first (ran_to s (suc j)) whole.0 (length (ran_to s j) + m) y
        (ap (λ (l : Run). at l (length (ran_to s j) + m)) (ran_next j c h) ∙ at_second (ran_to s j) own m ∙ e)

    pub entry_call : (m : ℕ) → m < length own → call_of s (place_of s j + m) ≡ j
    entry_call m l = call_of_lem j (place_of s j + m) (omega arith) (omega (arith, place_next j c h))

  -- The call and the entry of it that stand at the place p.
  pub record StandsAt (p : ℕ) (y : Entry) : Type 0 where
    pub number : ℕ
    pub call : Call
    pub entry : ℕ
    pub there : at s.calls number ≡ some call
    pub is : at (s.entries number (kept_at s number) call) entry ≡ some y
    pub place : p ≡ place_of s number + entry

  stands_place : (r p m : ℕ) → p ≡ length (ran_to s r) + m → p ≡ place_of s r + m
  unfolding place_of
  stands_place r p m h = h

  stands_to : (r p : ℕ) (y : Entry) → at (ran_to s r) p ≡ some y → StandsAt p y
  unfolding ran_to at
  stands_to zero p y e = none_some e
  stands_to (suc r) p y e = go (at s.calls r) refl (λ f. stands_to r p y f)
    where
      go : (c : Option Call) → at s.calls r ≡ c → (at (ran_to s r) p ≡ some y → StandsAt p y) → StandsAt p y
      go none h rest = rest (ap (λ (l : Run). at l p) (sym (ran_past r h)) ∙ e)
      go (some c) h rest = either (at_either (ran_to s r) (own r c h) p y (ap (λ (l : Run). at l p) (sym (ran_next r c h)) ∙ e))
        where
          either : (at (ran_to s r) p ≡ some y) ⊎ ((m : ℕ) × (p ≡ length (ran_to s r) + m) × (at (own r c h) m ≡ some y)) → StandsAt p y
          either (inl f) = rest f
          either (inr f) = record { number = r; call = c; entry = f.0; there = h; is = f.2; place = stands_place r p f.0 f.1 }

  pub stands_at : (p : ℕ) (y : Entry) → at (ran_by s) p ≡ some y → StandsAt p y
  unfolding ran_by
  stands_at p y e = stands_to (length s.calls) p y e

-- ---- what is kept

-- The entries of a call, one after another.
unfoldable pub through : {K : Type 0} → (K → Entry → K) → K → Run → K
through f k [] = k
through f k (x ∷ l) = through f (f k x) l

pub through_end : {K : Type 0} (f : K → Entry → K) (k : K) (l : Run) (x : Entry) → through f k (l ++ (x ∷ [])) ≡ f (through f k l) x
unfolding through
through_end f k [] x = refl
through_end f k (y ∷ l) x = through_end f (f k y) l x

-- By the number of a call: what an entry makes of what is kept, and the law that the call makes what its entries make; what is kept at each place.
module _ {K : Type 0} (s : System K) (entry : ℕ → K → Entry → K)
    (law : (j : ℕ) (k : K) (c : Call) → s.after j k c ≡ through (entry j) k (s.entries j k c))
    (keeps : ℕ → K) (begins : keeps 0 ≡ s.first)
    (goes : (p : ℕ) (y : Entry) → at (ran_by s) p ≡ some y → keeps (suc p) ≡ entry (call_of s p) (keeps p) y)
  where
    module _ (j : ℕ) (c : Call) (h : at s.calls j ≡ some c) (before : kept_at s j ≡ keeps (place_of s j)) where
      -- Before the m-th entry of a call.
      pub inside : (m : ℕ) → m ≤ length (own s j c h) → through (entry j) (kept_at s j) (take m (own s j c h)) ≡ keeps (place_of s j + m)
      unfolding through
      inside zero l = let e : place_of s j ≡ place_of s j + 0 = omega arith in before ∙ ap keeps e
      inside (suc m) l = go (at_there (own s j c h) m (omega arith)) (inside m (omega arith))
        where
          go : (y : Entry) × (at (own s j c h) m ≡ some y)
              → through (entry j) (kept_at s j) (take m (own s j c h)) ≡ keeps (place_of s j + m)
              → through (entry j) (kept_at s j) (take (suc m) (own s j c h)) ≡ keeps (place_of s j + suc m)
          go (y, e) f =
              ap (through (entry j) (kept_at s j)) (take_next (own s j c h) m y e)
              ∙ through_end (entry j) (kept_at s j) (take m (own s j c h)) y
              ∙ ap (λ (k : K). entry j k y) f
              ∙ ap (λ (r : ℕ). entry r (keeps (place_of s j + m)) y) (sym (entry_call s j c h m (omega arith)))
              ∙ sym (goes (place_of s j + m) y (entry_at s j c h m y e))
              ∙ ap keeps (let e : suc (place_of s j + m) ≡ place_of s j + suc m = omega arith in e)

      call_kept : kept_at s (suc j) ≡ keeps (place_of s (suc j))
      call_kept =
          kept_next s j c h
          ∙ law j (kept_at s j) c
          ∙ ap (through (entry j) (kept_at s j)) (sym (take_all (length (own s j c h)) (own s j c h) (omega arith)))
          ∙ inside (length (own s j c h)) (omega arith)
          ∙ ap keeps (sym (place_next s j c h))

    pub kept_follows : (j : ℕ) → kept_at s j ≡ keeps (place_of s j)
    unfolding kept_at place_of ran_to
    kept_follows zero = sym begins
    kept_follows (suc j) = go (at s.calls j) refl (kept_follows j)
      where
        go : (y : Option Call) → at s.calls j ≡ y → kept_at s j ≡ keeps (place_of s j) → kept_at s (suc j) ≡ keeps (place_of s (suc j))
        go none h f = kept_past s j h ∙ f ∙ ap keeps (sym (ap length (ran_past s j h)))
        go (some c) h f = call_kept j c h f
