-- Row 6 for States and CPCs, as the code tests it.
use Prim.Native.Nat.{ℕ}
use mathlib.Core.Path.{◌≡◌, sym, ap, ◌∙◌}
use mathlib.Core.Bool.{Bool, true, false, not}
use borrow.Author.Tests.{not-true, not-false}
use Rattle.base.specs.Tests.{◌and◌}
use Rattle.base.proofs.TestLaws.{and_yes, and_no}
use Rattle.format.specs.Types.{State, state, cpc}
use Rattle.record.specs.declared.State.{State as Numbers}
use Rattle.replication.specs.Machine.Types.{Server}
use Rattle.replication.specs.Machine.Rules.{member_of, is_of, state_in, cpc_in, from_member}
use Rattle.image.specs.Header.{header_of}
use Rattle.step.proofs.ForceLaws.{Member}

abbrev pub IsOf : Numbers → ℕ → Bool → Type 0
IsOf h id t = (s : Server) → h ≡ header_of s → t ≡ is_of s.membership.configuration id

abbrev pub StateIn : Numbers → ℕ → Bool → Type 0
StateIn h k t = (s : Server) → h ≡ header_of s → t ≡ state_in s.membership k

abbrev pub CpcIn : Numbers → ℕ → Bool → Type 0
CpcIn h k t = (s : Server) → h ≡ header_of s → t ≡ cpc_in s.membership k

-- As the code tests them one after another.
module _ (t u : Bool) (x y z : Bool) (e : t ≡ x) where
  pub first_no : not t ≡ true → false ≡ (x and y and not z)
  first_no n = and_no x (y and not z) (sym e ∙ not-true t n)

  module _ (p : not t ≡ false) (f : u ≡ y) where
    pub second_no : not u ≡ true → false ≡ (x and y and not z)
    second_no n = and_yes false x (y and not z) (sym e ∙ not-false t p) (and_no y (not z) (sym f ∙ not-true u n))

    pub third : not u ≡ false → (w : Bool) → w ≡ z → not w ≡ (x and y and not z)
    third q w g = and_yes (not w) x (y and not z) (sym e ∙ not-false t p) (and_yes (not w) y (not z) (sym f ∙ not-false u q) (ap not g))

module _ (h : Numbers) (k id : ℕ) (t : Bool) (e : Member h k t) where
  pub state_stranger : not t ≡ true → (s : Server) (x : State) → h ≡ header_of s → x.sender ≡ k → x.configuration ≡ id
      → false ≡ from_member s.membership (state x)
  unfolding from_member
  state_stranger n s x l a c =
      first_no t true _ (is_of s.membership.configuration x.configuration) (state_in s.membership x.sender)
      (e s l ∙ ap (member_of s.membership.configuration) (sym a)) n

  pub cpc_stranger : not t ≡ true → (s : Server) → h ≡ header_of s → false ≡ from_member s.membership (cpc k id)
  unfolding from_member
  cpc_stranger n s l = first_no t true _ (is_of s.membership.configuration id) (cpc_in s.membership k) (e s l) n

  module _ (p : not t ≡ false) (u : Bool) (f : IsOf h id u) where
    pub state_elsewhere : not u ≡ true → (s : Server) (x : State) → h ≡ header_of s → x.sender ≡ k → x.configuration ≡ id
        → false ≡ from_member s.membership (state x)
    unfolding from_member
    state_elsewhere n s x l a c =
        second_no t u _ _ (state_in s.membership x.sender) (e s l ∙ ap (member_of s.membership.configuration) (sym a)) p
        (f s l ∙ ap (is_of s.membership.configuration) (sym c)) n

    pub cpc_elsewhere : not u ≡ true → (s : Server) → h ≡ header_of s → false ≡ from_member s.membership (cpc k id)
    unfolding from_member
    cpc_elsewhere n s l = second_no t u _ _ (cpc_in s.membership k) (e s l) p (f s l) n

    pub state_once : not u ≡ false → (w : Bool) → StateIn h k w
        → (s : Server) (x : State) → h ≡ header_of s → x.sender ≡ k → x.configuration ≡ id → not w ≡ from_member s.membership (state x)
    unfolding from_member
    state_once n w g s x l a c =
        third t u _ _ _ (e s l ∙ ap (member_of s.membership.configuration) (sym a)) p
        (f s l ∙ ap (is_of s.membership.configuration) (sym c)) n w
        (g s l ∙ ap (state_in s.membership) (sym a))

    pub cpc_once : not u ≡ false → (w : Bool) → CpcIn h k w → (s : Server) → h ≡ header_of s → not w ≡ from_member s.membership (cpc k id)
    unfolding from_member
    cpc_once n w g s l = third t u _ _ _ (e s l) p (f s l) n w (g s l)
