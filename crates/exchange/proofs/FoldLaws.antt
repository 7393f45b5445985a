-- A turn of each loop over the slots: the slot k is meant or not.
use Prim.Native.Nat.{ℕ, ◌+◌, ◌-◌, ◌≤◌, ◌<◌}
use mathlib.Core.Path.{◌≡◌, refl, sym, ap, ◌∙◌}
use mathlib.Core.Bool.{Bool, true, false}
use mathlib.Core.List.{List, [], ◌∷◌}
use Rattle.std.specs.Prelude.{Option, Some, None}
use Rattle.base.specs.Tests.{pick}
use Rattle.base.proofs.TestLaws.{pick_yes, pick_no}
use Rattle.base.proofs.Branches.{or_yes, or_no}
use Rattle.base.specs.Lists.{any, filter}
use Rattle.base.specs.Sets.{in_set}
use Rattle.format.specs.Types.{State}
use Rattle.exchange.specs.declared.slots.Slots.{Slots}
use Rattle.exchange.specs.Slots.{state_in, states_from, states_of}
use Rattle.exchange.specs.Folds.{folded, FoundAt, Found, First}
use Rattle.exchange.proofs.SlotLaws.{states_in_lem, states_out, states_end}

module _ (v : Slots) (b : List ℕ) (k : ℕ) where
  -- The States from the slot k on, and those behind it.
  abbrev these : List State
  these = states_from v b (v.servers - k) k

  abbrev rest : List State
  rest = states_from v b (v.servers - (k + 1)) (k + 1)

  -- g of those that are left, where the slot is meant, where it is not, and where none is left.
  pub meant_again : {Y : Type 0} (g : List State → Y) (w : Y) → k < v.servers → in_set k v.here ≡ true → w ≡ g these → w ≡ g (state_in v b k ∷ rest)
  meant_again g w h m i = i ∙ ap g (states_in_lem v b k h m)

  pub other_again : {Y : Type 0} (g : List State → Y) (w : Y) → k < v.servers → in_set k v.here ≡ false → w ≡ g these → w ≡ g rest
  other_again g w h m i = i ∙ ap g (states_out v b k h m)

  pub none_left : {Y : Type 0} (g : List State → Y) (w : Y) → v.servers ≤ k → w ≡ g these → w ≡ g []
  none_left g w h i = i ∙ ap g (states_end v b k h)

  -- ---- folded

  pub fold_step : {A : Type 0} (step : A → State → A) (a r w : A) → k < v.servers → in_set k v.here ≡ true → r ≡ step a (state_in v b k)
      → w ≡ folded step a these → w ≡ folded step r rest
  unfolding folded
  fold_step {A} step a r w h m e i = meant_again (folded step a) w h m i ∙ ap (λ (x : A). folded step x rest) (sym e)

  pub fold_other : {A : Type 0} (step : A → State → A) (a r w : A) → k < v.servers → in_set k v.here ≡ false → r ≡ a
      → w ≡ folded step a these → w ≡ folded step r rest
  fold_other {A} step a r w h m e i = other_again (folded step a) w h m i ∙ ap (λ (x : A). folded step x rest) (sym e)

  pub fold_end : {A : Type 0} (step : A → State → A) (a w : A) → v.servers ≤ k → w ≡ folded step a these → a ≡ w
  unfolding folded
  fold_end step a w h i = sym (none_left (folded step a) w h i)

  -- ---- any

  module _ (t : State → Bool) where
    pub any_met : (w : Bool) → k < v.servers → in_set k v.here ≡ true → true ≡ t (state_in v b k) → w ≡ any t these → true ≡ w
    unfolding any
    any_met w h m e i = or_yes _ _ (sym e) ∙ sym (meant_again (any t) w h m i)

    pub any_step : (w : Bool) → k < v.servers → in_set k v.here ≡ true → false ≡ t (state_in v b k) → w ≡ any t these → w ≡ any t rest
    unfolding any
    any_step w h m e i = meant_again (any t) w h m i ∙ sym (or_no _ _ _ (sym e) refl)

    pub any_end : (w : Bool) → v.servers ≤ k → w ≡ any t these → false ≡ w
    unfolding any
    any_end w h i = sym (none_left (any t) w h i)

    -- ---- the first that passes

    pub find_met : k < v.servers → in_set k v.here ≡ true → true ≡ t (state_in v b k) → filter t (states_of v b) ≡ filter t these
        → FoundAt t v b k
    unfolding filter
    find_met h m e i =
        record { low = h; meant = m; passes = sym e; states = meant_again (filter t) _ h m i ∙ sym (pick_yes _ _ _ _ (sym e) refl) }

    pub find_step : (w : List State) → k < v.servers → in_set k v.here ≡ true → false ≡ t (state_in v b k) → w ≡ filter t these → w ≡ filter t rest
    unfolding filter
    find_step w h m e i = meant_again (filter t) w h m i ∙ sym (pick_no _ _ _ _ (sym e) refl)

    pub find_end : (w : List State) → v.servers ≤ k → w ≡ filter t these → w ≡ []
    unfolding filter
    find_end w h i = none_left (filter t) w h i

-- Every State passes.
filter_all : (xs : List State) → filter (λ _. true) xs ≡ xs
unfolding filter pick
filter_all [] = refl
filter_all (x ∷ xs) = ap (λ (l : List State). x ∷ l) (filter_all xs)

pub first_of : (v : Slots) (b : List ℕ) (r : Option ℕ) → Found (λ _. true) v b r → First v b r
first_of v b None f = sym (filter_all (states_of v b)) ∙ f
first_of v b (Some k) f =
    record { low = f.low; meant = f.meant; states = sym (filter_all _) ∙ f.states ∙ ap (λ (l : List State). state_in v b k ∷ l) (filter_all _) }
