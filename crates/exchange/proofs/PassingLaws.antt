-- The set of the slots whose State passes a test, made slot by slot.
use Prim.Native.Nat.{ℕ, zero, suc, ◌+◌, ◌≤◌, ◌<◌}
use mathlib.Core.Path.{◌≡◌, refl, sym, ap, ap₂, subst, ◌∙◌}
use mathlib.Core.Bool.{Bool, true, false}
use mathlib.Core.List.{List, ◌∷◌}
use native.Mathlib.Omega.{arith}
use native.Mathlib.Numerals.{add-one}
use Rattle.base.specs.Tests.{◌and◌, ◌=?◌, pick}
use Rattle.base.proofs.TestLaws.{pick_yes, pick_no, and_yes, and_no, Known, known, holds, fails, and_holds, eq_holds, eq_fails}
use Rattle.base.specs.Lists.{filter}
use Rattle.base.specs.Sets.{in_set, with_member}
use Rattle.base.proofs.SetLaws.{in_empty, member_other, member_same}
use Rattle.format.specs.Types.{State}
use Rattle.exchange.specs.declared.slots.Slots.{Slots}
use Rattle.exchange.specs.Slots.{Space, Room, with_here, slot_at, state_in, states_from, states_of}
use Rattle.exchange.specs.Folds.{Those}

-- ---- the set made

-- Those below k that pass.
unfoldable pub passing_to : (State → Bool) → Slots → List ℕ → ℕ → ℕ
passing_to t v b zero = 0
passing_to t v b (suc k) = pick (in_set k v.here and t (state_in v b k)) (with_member k (passing_to t v b k)) (passing_to t v b k)

filter_pick : (t : State → Bool) (a : Bool) (x : State) (xs : List State)
    → filter t (pick a (x ∷ xs) xs) ≡ pick (a and t x) (x ∷ filter t xs) (filter t xs)
unfolding pick filter ◌and◌
filter_pick t true x xs = refl
filter_pick t false x xs = refl

other : (j k : ℕ) → j < suc k → (j ≡ k → ⊥) → j < k
other j k h z = omega arith

module _ (t : State → Bool) (v : Slots) (b : List ℕ) where
  pub passing_start : 0 ≡ passing_to t v b 0
  unfolding passing_to
  passing_start = refl

  pub passing_again : (k set r : ℕ) → r ≡ pick (in_set k v.here and t (state_in v b k)) (with_member k set) set → set ≡ passing_to t v b k
      → r ≡ passing_to t v b (k + 1)
  unfolding passing_to
  passing_again k set r e i = e ∙ rw (i, add-one)

  none_above : (k j : ℕ) → k ≤ j → in_set j (passing_to t v b k) ≡ false
  unfolding passing_to
  none_above zero j h = in_empty j
  none_above (suc k) j h = member_other _ j k (passing_to t v b k) (λ e. omega arith) ∙ none_above k j (omega arith)

  those_below : (k j : ℕ) → j < k → in_set j (passing_to t v b k) ≡ (in_set j v.here and t (state_in v b j))
  unfolding passing_to
  those_below zero j h = absurd (omega arith)
  those_below (suc k) j h = go (known (j =? k)) (λ l. those_below k j l)
    where
      go : Known (j =? k) → (j < k → in_set j (passing_to t v b k) ≡ (in_set j v.here and t (state_in v b j)))
          → in_set j (passing_to t v b (suc k)) ≡ (in_set j v.here and t (state_in v b j))
      go (holds e) more =
          let z : j ≡ k = eq_holds j k e in
          rw z (member_same _ k (passing_to t v b k) (none_above k k (omega arith)))
      go (fails e) more =
          let z : j ≡ k → ⊥ = eq_fails j k e in
          member_other _ j k (passing_to t v b k) z ∙ more (other j k h z)

  passing_from : (g m k : ℕ) → ((j : ℕ) → j < v.servers → in_set j g ≡ (in_set j v.here and t (state_in v b j))) → k + m ≤ v.servers
      → states_from (with_here g v) b m k ≡ filter t (states_from v b m k)
  unfolding states_from filter with_here state_in slot_at
  passing_from g zero k h l = refl
  passing_from g (suc m) k h l =
      let now : in_set k g ≡ (in_set k v.here and t (state_in v b k)) = h k (omega arith) in
      let rest : states_from (with_here g v) b m (k + 1) ≡ filter t (states_from v b m (k + 1)) = passing_from g m (k + 1) h (omega arith) in
      ap₂ {A = Bool} {B = List State} {C = List State} (λ a xs. pick a (state_in v b k ∷ xs) xs) now rest
      ∙ sym (filter_pick t (in_set k v.here) (state_in v b k) (states_from v b m (k + 1)))

  pub passing_end : (k set : ℕ) → k ≤ v.servers → v.servers ≤ k → set ≡ passing_to t v b k → Those t v b (with_here set v) b
  unfolding states_of with_here state_in slot_at
  passing_end k set h l e =
      let full : k ≡ v.servers = omega arith in
      let is : (j : ℕ) → j < v.servers → in_set j set ≡ (in_set j v.here and t (state_in v b j)) =
      λ j m. ap (in_set j) (e ∙ ap (passing_to t v b) full) ∙ those_below v.servers j m in
      record {
        slots = refl;
        bytes = refl;
        states = passing_from set v.servers 0 is (omega arith);
        among = λ j m i. (and_holds _ _ (sym (is j m) ∙ i)).0;
      }

  -- ---- a turn

  pub passing_out : (k set : ℕ) → in_set k v.here ≡ false → set ≡ passing_to t v b k → set ≡ passing_to t v b (k + 1)
  passing_out k set m i = passing_again k set set (pick_no _ _ _ _ (sym (and_no _ _ m)) refl) i

  pub passing_not : (k set : ℕ) → in_set k v.here ≡ true → false ≡ t (state_in v b k) → set ≡ passing_to t v b k → set ≡ passing_to t v b (k + 1)
  passing_not k set m e i = passing_again k set set (pick_no _ _ _ _ (sym (and_yes false _ _ m e)) refl) i

  pub passing_yes : (k set r : ℕ) → in_set k v.here ≡ true → true ≡ t (state_in v b k) → r ≡ with_member k set → set ≡ passing_to t v b k
      → r ≡ passing_to t v b (k + 1)
  passing_yes k set r m e j i = passing_again k set r (pick_yes _ _ _ _ (sym (and_yes true _ _ m e)) j) i

-- ---- some of the slots have room where all have it

some_room : (v : Slots) (g : ℕ) (b : List ℕ) → ((k : ℕ) → k < v.servers → in_set k g ≡ true → in_set k v.here ≡ true) → Room v b → Room (with_here g v) b
unfolding with_here state_in slot_at
some_room v g b a r =
    record {
      space = record { servers = r.space.servers; long = r.space.long; inside = r.space.inside };
      senders = λ k l m. r.senders k l (a k l m);
    }

pub among_room : (v w : Slots) (b c : List ℕ) → w ≡ with_here w.here v → c ≡ b
    → ((k : ℕ) → k < v.servers → in_set k w.here ≡ true → in_set k v.here ≡ true) → Room v b → Room w c
among_room v w b c e f a r = subst (λ (y : Slots). Room y c) (sym e) (subst (Room (with_here w.here v)) (sym f) (some_room v w.here b a r))

pub passing_room : (t : State → Bool) (v w : Slots) (b c : List ℕ) → Those t v b w c → Room v b → Room w c
passing_room t v w b c p r = among_room v w b c p.slots p.bytes p.among r
