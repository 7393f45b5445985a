-- What the code on the state's mode answers.
use Prim.Native.Nat.{ℕ, ◌<◌}
use mathlib.Core.Path.{◌≡◌, refl, sym, ap, subst, ◌∙◌}
use mathlib.Core.Bool.{Bool, true, false}
use mathlib.Core.List.{List}
use mathlib.Core.Logic.{◌⊎◌, inl, inr}
use native.Mathlib.Omega.{arith}
use lib.Dec.{eqb, ltb}
use Rattle.std.specs.Prelude.{Result, Ok, Err}
use Rattle.base.specs.Tests.{◌and◌, ◌=?◌, ◌<?◌, ◌≤?◌, pick}
use Rattle.base.proofs.TestLaws.{and_yes, and_no, le_no, eq_yes, eq_no, pick_no}
use Rattle.base.proofs.Branches.{told_eq, told_lt, and_true, and_false}
use Rattle.format.specs.Limits.{most_index_limit}
use Rattle.record.specs.Context.{context_of}
use Rattle.record.specs.declared.Context.{Context}
use Rattle.record.specs.declared.State.{State}
use Rattle.record.specs.declared.modes.UnknownMode.{UnknownMode}
use Rattle.record.specs.declared.modes.Mode.{Mode}
use Rattle.record.specs.declared.modes.Mode.TheVariants.{NonPrim, RegPrim, TransPrim, ExchangeStates, ExchangeActions, Construct, No, Un}
use Rattle.record.specs.Codes.{mode_code, ModeWith}
use Rattle.image.specs.Header.{mode_number}
use Rattle.state_check.specs.Checks.{mode_test, exchange_ok, mode_ok}

module _ (r s t : Bool) where
  -- The test, by the mode with this number.
  by_mode : Mode → Bool
  by_mode NonPrim = true
  by_mode RegPrim = r
  by_mode TransPrim = r
  by_mode ExchangeStates = r
  by_mode ExchangeActions = r and s
  by_mode Construct = r and t
  by_mode No = r and t
  by_mode Un = r and t

  mode_table : (m : Mode) → by_mode m ≡ mode_test (mode_code m) r s t
  unfolding by_mode mode_test mode_number pick ◌=?◌ ◌≤?◌ ◌and◌
  mode_table NonPrim = refl
  mode_table RegPrim = and_true r
  mode_table TransPrim = and_true r
  mode_table ExchangeStates = and_true r
  mode_table ExchangeActions = refl
  mode_table Construct = refl
  mode_table No = refl
  mode_table Un = refl

  mode_out : (k : ℕ) → 7 < k → false ≡ mode_test k r s t
  unfolding mode_test mode_number
  mode_out k l =
      let a : false ≡ pick (k =? 4) s (k ≤? 7 and t) = pick_no _ false _ _ (eq_no k 4 (λ e. absurd (omega arith))) (and_no _ _ (le_no k 7 l)) in
      let d : false ≡ pick (k ≤? 3) true (pick (k =? 4) s (k ≤? 7 and t)) = pick_no _ false _ _ (le_no k 3 (omega arith)) a in
      pick_no _ false _ _ (eq_no k 0 (λ e. absurd (omega arith))) (and_false r ∙ ap (λ (x : Bool). r and x) d)

-- The mode that is named by the state's number, if any.
module _ (c : Context) (h : State) (b : List ℕ) (r : Result Mode UnknownMode) (e : ModeWith h.mode r) where
  pub mode_unnamed : (x : UnknownMode) → r ≡ Err x → false ≡ mode_ok (context_of c) h b
  unfolding mode_ok
  mode_unnamed x f = let z = subst (ModeWith h.mode) f e in mode_out _ _ _ h.mode z.1

  abbrev configured : Bool
  configured = h.configuration_status =? 1

  abbrev exchanged : Bool
  exchanged = exchange_ok (context_of c) h b

  abbrev below : Bool
  below = h.last.index.0 <? most_index_limit

  module _ (m : Mode) (f : r ≡ Ok m) where
    arm : (n : Mode) → m ≡ n → by_mode configured exchanged below n ≡ mode_ok (context_of c) h b
    unfolding mode_ok
    arm n g =
        let code : mode_code m ≡ h.mode = subst (ModeWith h.mode) f e in
        ap (by_mode configured exchanged below) (sym g)
        ∙ mode_table configured exchanged below m
        ∙ ap (λ (k : ℕ). mode_test k configured exchanged below) code

    pub mode_free : m ≡ NonPrim → true ≡ mode_ok (context_of c) h b
    unfolding by_mode
    mode_free g = arm NonPrim g

    pub mode_plain : (m ≡ RegPrim) ⊎ ((m ≡ TransPrim) ⊎ (m ≡ ExchangeStates)) → eqb h.configuration_status 1 ≡ mode_ok (context_of c) h b
    unfolding by_mode
    mode_plain (inl g) = told_eq h.configuration_status 1 ∙ arm RegPrim g
    mode_plain (inr (inl g)) = told_eq h.configuration_status 1 ∙ arm TransPrim g
    mode_plain (inr (inr g)) = told_eq h.configuration_status 1 ∙ arm ExchangeStates g

    module _ (y : h.configuration_status ≡ 1) where
      yes : configured ≡ true
      yes = eq_yes h.configuration_status 1 y

      pub exchange_on : (x : Bool) → m ≡ ExchangeActions → x ≡ exchange_ok (context_of c) h b → x ≡ mode_ok (context_of c) h b
      unfolding by_mode
      exchange_on x g k = and_yes x configured exchanged yes k ∙ arm ExchangeActions g

      pub ends_on : (m ≡ Construct) ⊎ ((m ≡ No) ⊎ (m ≡ Un)) → ltb h.last.index.0 most_index_limit ≡ mode_ok (context_of c) h b
      unfolding by_mode
      ends_on (inl g) = and_yes _ configured below yes (told_lt h.last.index.0 most_index_limit) ∙ arm Construct g
      ends_on (inr (inl g)) = and_yes _ configured below yes (told_lt h.last.index.0 most_index_limit) ∙ arm No g
      ends_on (inr (inr g)) = and_yes _ configured below yes (told_lt h.last.index.0 most_index_limit) ∙ arm Un g

    module _ (y : h.configuration_status ≡ 1 → ⊥) where
      no : (t : Bool) → eqb h.configuration_status 1 ≡ (configured and t)
      no t = told_eq h.configuration_status 1 ∙ eq_no h.configuration_status 1 y ∙ and_no configured t (eq_no h.configuration_status 1 y)

      pub exchange_off : m ≡ ExchangeActions → eqb h.configuration_status 1 ≡ mode_ok (context_of c) h b
      unfolding by_mode
      exchange_off g = no exchanged ∙ arm ExchangeActions g

      pub ends_off : (m ≡ Construct) ⊎ ((m ≡ No) ⊎ (m ≡ Un)) → eqb h.configuration_status 1 ≡ mode_ok (context_of c) h b
      unfolding by_mode
      ends_off (inl g) = no below ∙ arm Construct g
      ends_off (inr (inl g)) = no below ∙ arm No g
      ends_off (inr (inr g)) = no below ∙ arm Un g
