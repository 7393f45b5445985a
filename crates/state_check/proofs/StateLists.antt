-- All slots of collected States: the code's test of them, and what it says of the list that is read of them.
use Prim.Native.Nat.{ℕ, zero, suc, ◌+◌, ◌*◌, ◌≤◌}
use mathlib.Core.Path.{◌≡◌, refl, sym, ap, ap₂, subst, ◌∙◌}
use mathlib.Core.Bool.{Bool, true, false, not}
use mathlib.Core.List.{List, ◌∷◌, ◌++◌}
use mathlib.Core.Option.{Option, none, some, none-ne-some, some-injective}
use native.Mathlib.Nat.{add-zero, suc-mul}
use native.Mathlib.Omega.{arith}
use lib.ListN.{length, get_or, take, drop}
use lib.Seq.{take_at, drop_at}
use Rattle.base.specs.Tests.{◌or◌, pick}
use Rattle.base.proofs.TestLaws.{pick_yes, pick_no, not_both, and_holds, both_yes, Known, holds, fails, known}
use Rattle.base.specs.Bytes.{Bytes, part_at, over}
use Rattle.base.proofs.BytesLaws.{part_length, part_append}
use Rattle.base.specs.Sets.{in_set}
use Rattle.format.specs.Types.{State, Context, state}
use Rattle.format.specs.Range.{context_ok, state_ok}
use Rattle.format.specs.Read.{state_at}
use Rattle.format.specs.Write.{write}
use Rattle.format.proofs.Ranges.{ContextRange}
use Rattle.image.specs.Layout.{state_size}
use Rattle.image.specs.Image.{state_over, states_over}
use Rattle.image.specs.Decode.{states_at}
use Rattle.image.proofs.Used.{state_over_length}
use Rattle.state_check.specs.Collected.{holds_state, collected_ok}
use Rattle.state_check.proofs.Over.{occurs_over, over_occurs, first_same, second_same}
use Rattle.state_check.proofs.StateSlots.{slot_in, slot_out, slot_short}

pub states_number : (n q here m k : ℕ) (b : List ℕ) (at : ℕ) → length (states_at n q here m k b at) ≡ m
unfolding states_at
states_number n q here zero k b at = refl
states_number n q here (suc m) k b at = ap suc (states_number n q here m (k + 1) b (at + state_size n q))

-- A slot's value: whether it is there, and what.
pub data InSlot (t : Bool) (x : State) (y : Option State) : Type 0 where
  there : t ≡ true → y ≡ some x → InSlot t x y
  absent : t ≡ false → y ≡ none → InSlot t x y

pub in_slot : (t : Bool) (x : State) → InSlot t x (pick t (some x) none)
in_slot t x = go (known t)
  where
    go : Known t → InSlot t x (pick t (some x) none)
    go (holds h) = there h (sym (pick_yes t (some x) (some x) none h refl))
    go (fails h) = absent h (sym (pick_no t none (some x) none h refl))

in_or : (t u : Bool) → (not t or u) ≡ true → t ≡ true → u ≡ true
unfolding ◌or◌
in_or true u h e = h
in_or false u h e = not_both e

or_in : (t u : Bool) → (t ≡ true → u ≡ true) → (not t or u) ≡ true
unfolding ◌or◌
or_in true u h = h refl
or_in false u h = refl

-- What is known of the State x, collected at the place k.
pub record Collected (c : Context) (i k : ℕ) (x : State) : Type 0 where
  pub fits : state_ok c x ≡ true
  pub sender : x.sender ≡ k
  pub configuration : x.configuration ≡ i

-- The first slot of those in a part of the buffer, and the others.
module _ (size m : ℕ) (b : List ℕ) (at : ℕ) (h : at + suc m * size ≤ length b) where
  pub first_room : at + size ≤ length b
  first_room = omega (arith, suc-mul m size)

  pub rest_room : at + size + m * size ≤ length b
  rest_room = omega (arith, suc-mul m size)

  two_parts : part_at (suc m * size) b at ≡ part_at size b at ++ part_at (m * size) b (at + size)
  two_parts =
      let e : suc m * size ≡ size + m * size = omega (arith, suc-mul m size) in
      ap (λ (j : ℕ). part_at j b at) e ∙ part_append size (m * size) b at

  first_long : length (part_at size b at) ≡ size
  first_long = part_length size b at first_room

  pub over_parts : (x : Option State) (xs : List (Option State))
      → states_over size (x ∷ xs) (part_at (suc m * size) b at) ≡ state_over x (part_at size b at) ++ states_over size xs (part_at (m * size) b (at + size))
  unfolding states_over
  over_parts x xs =
      let p : List ℕ = part_at size b at in
      let r : List ℕ = part_at (m * size) b (at + size) in
      ap₂ {A = List ℕ} {B = List ℕ} {C = List ℕ} (λ u v. state_over x u ++ states_over size xs v) (ap (take size) two_parts ∙ take_at p r size first_long)
      (ap (drop size) two_parts ∙ drop_at p r size first_long)

  pub over_whole : (x : Option State) (xs : List (Option State)) → state_over x (part_at size b at) ≡ part_at size b at
      → states_over size xs (part_at (m * size) b (at + size)) ≡ part_at (m * size) b (at + size)
      → states_over size (x ∷ xs) (part_at (suc m * size) b at) ≡ part_at (suc m * size) b at
  over_whole x xs e f = over_parts x xs ∙ ap₂ {A = List ℕ} {B = List ℕ} {C = List ℕ} (λ u v. u ++ v) e f ∙ sym two_parts

  pub over_split : (x : Option State) (xs : List (Option State)) → length (state_over x (part_at size b at)) ≡ size
      → states_over size (x ∷ xs) (part_at (suc m * size) b at) ≡ part_at (suc m * size) b at
      → (state_over x (part_at size b at) ≡ part_at size b at) × (states_over size xs (part_at (m * size) b (at + size)) ≡ part_at (m * size) b (at + size))
  over_split x xs l e =
      let u : List ℕ = state_over x (part_at size b at) in
      let v : List ℕ = states_over size xs (part_at (m * size) b (at + size)) in
      let p : List ℕ = part_at size b at in
      let r : List ℕ = part_at (m * size) b (at + size) in
      let both : u ++ v ≡ p ++ r = sym (over_parts x xs) ∙ e ∙ two_parts in
      (first_same size u v p r l first_long both, second_same size u v p r l first_long both)

module _ (c : Context) (s : ContextRange c) (ok : context_ok c ≡ true) (b : List ℕ) where
  abbrev Size : ℕ
  Size = state_size c.servers c.quota

  abbrev States : (here m k at : ℕ) → List (Option State)
  States here m k at = states_at c.servers c.quota here m k b at

  -- ---- from the test

  one_same : Bytes b → (t : Bool) (k i at : ℕ) (y : Option State) → at + Size ≤ length b → (t ≡ true → holds_state c k i b at ≡ true) → InSlot t (state_at c.servers (drop at b)) y
      → state_over y (part_at Size b at) ≡ part_at Size b at
  unfolding state_over
  one_same z t k i at y h f (there e p) =
      let d = slot_in c s ok b at z k i h (f e) in
      ap (λ (w : Option State). state_over w (part_at Size b at)) p ∙ occurs_over Size _ b at (slot_short c s ok b at d.fits) d.occurs
  one_same z t k i at y h f (absent e p) = ap (λ (w : Option State). state_over w (part_at Size b at)) p

  pub states_same : Bytes b → (here i m k at : ℕ) → at + m * Size ≤ length b → collected_ok c here i m k b at ≡ true
      → states_over Size (States here m k at) (part_at (m * Size) b at) ≡ part_at (m * Size) b at
  unfolding collected_ok states_at states_over
  states_same z here i zero k at h t = refl
  states_same z here i (suc m) k at h t =
      let u = and_holds _ _ t in
      over_whole Size m b at h _ (States here m (k + 1) (at + Size))
      (one_same z (in_set k here) k i at _ (first_room Size m b at h) (in_or (in_set k here) (holds_state c k i b at) u.0) (in_slot (in_set k here) (state_at c.servers (drop at b))))
      (states_same z here i m (k + 1) (at + Size) (rest_room Size m b at h) u.1)

  one_collected : Bytes b → (t : Bool) (k i at : ℕ) (y : Option State) (x : State) → at + Size ≤ length b → (t ≡ true → holds_state c k i b at ≡ true) → InSlot t (state_at c.servers (drop at b)) y
      → y ≡ some x → Collected c i k x × (t ≡ true)
  one_collected z t k i at y x h f (there e p) q =
      let d = slot_in c s ok b at z k i h (f e) in
      let same : state_at c.servers (drop at b) ≡ x = some-injective _ x (sym p ∙ q) in
      (subst (Collected c i k) same (record { fits = d.fits; sender = d.sender; configuration = d.configuration }), e)
  one_collected z t k i at y x h f (absent e p) q = absurd (none-ne-some x (sym p ∙ q))

  pub states_collected : Bytes b → (here i m k at : ℕ) → at + m * Size ≤ length b → collected_ok c here i m k b at ≡ true → (j : ℕ) (x : State)
      → get_or (States here m k at) j none ≡ some x → Collected c i (k + j) x × (in_set (k + j) here ≡ true)
  unfolding collected_ok states_at
  states_collected z here i zero k at h t j x e = absurd (none-ne-some x e)
  states_collected z here i (suc m) k at h t zero x e =
      let u = and_holds _ _ t in
      let here_at : k + 0 ≡ k = add-zero k in
      rw here_at
      (one_collected z (in_set k here) k i at _ x (first_room Size m b at h) (in_or (in_set k here) (holds_state c k i b at) u.0) (in_slot (in_set k here) (state_at c.servers (drop at b))) e)
  states_collected z here i (suc m) k at h t (suc j) x e =
      let next : k + 1 + j ≡ k + suc j = omega arith in
      rw next at (states_collected z here i m (k + 1) (at + Size) (rest_room Size m b at h) (and_holds _ _ t).1 j x e)

  -- ---- and back

  one_long : (t : Bool) (k i at : ℕ) (y : Option State) → at + Size ≤ length b → ((x : State) → y ≡ some x → Collected c i k x) → InSlot t (state_at c.servers (drop at b)) y
      → length (state_over y (part_at Size b at)) ≡ Size
  one_long t k i at y h f (there e p) =
      ap (λ (w : Option State). length (state_over w (part_at Size b at))) p
      ∙ state_over_length Size (some (state_at c.servers (drop at b))) (part_at Size b at) (slot_short c s ok b at (f _ p).fits) (part_length Size b at h)
  one_long t k i at y h f (absent e p) =
      ap (λ (w : Option State). length (state_over w (part_at Size b at))) p ∙ state_over_length Size none (part_at Size b at) tt (part_length Size b at h)

  one_holds : (t : Bool) (k i at : ℕ) (y : Option State) → ((x : State) → y ≡ some x → Collected c i k x) → InSlot t (state_at c.servers (drop at b)) y
      → state_over y (part_at Size b at) ≡ part_at Size b at → t ≡ true → holds_state c k i b at ≡ true
  unfolding state_over
  one_holds t k i at y f (there e p) q u =
      let d = f _ p in
      let x : State = state_at c.servers (drop at b) in
      let over_it : over (write (state x)) (part_at Size b at) ≡ part_at Size b at = ap (λ (w : Option State). state_over w (part_at Size b at)) (sym p) ∙ q in
      slot_out c s ok b at k i
      (record { fits = d.fits; sender = d.sender; configuration = d.configuration; occurs = over_occurs Size _ b at (slot_short c s ok b at d.fits) over_it })
  one_holds t k i at y f (absent e p) q u = not_both (sym e ∙ u)

  pub states_out : (here i m k at : ℕ) → at + m * Size ≤ length b
      → ((j : ℕ) (x : State) → get_or (States here m k at) j none ≡ some x → Collected c i (k + j) x)
      → states_over Size (States here m k at) (part_at (m * Size) b at) ≡ part_at (m * Size) b at → collected_ok c here i m k b at ≡ true
  unfolding collected_ok states_at
  states_out here i zero k at h f e = refl
  states_out here i (suc m) k at h f e =
      let y = in_slot (in_set k here) (state_at c.servers (drop at b)) in
      let here_at : k + 0 ≡ k = add-zero k in
      let first : (x : State) → pick (in_set k here) (some (state_at c.servers (drop at b))) none ≡ some x → Collected c i k x = λ x p. rw here_at at (f 0 x p) in
      let both = over_split Size m b at h _ (States here m (k + 1) (at + Size)) (one_long (in_set k here) k i at _ (first_room Size m b at h) first y) e in
      both_yes _ _ (or_in (in_set k here) (holds_state c k i b at) (one_holds (in_set k here) k i at _ first y both.0))
      (states_out here i m (k + 1) (at + Size) (rest_room Size m b at h) (λ j x p. let next : k + 1 + j ≡ k + suc j = omega arith in rw next (f (suc j) x p)) both.1)
