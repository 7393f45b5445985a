-- A member that has all States has those that the members sent on taking the configuration.
use Prim.Native.Nat.{ℕ, zero, suc, ◌≤◌, ◌<◌}
use mathlib.Core.Path.{◌≡◌, refl, sym, ap, ◌∙◌}
use mathlib.Core.Bool.{true}
use mathlib.Core.List.{List, [], ◌∷◌, ◌++◌}
use mathlib.Core.Option.{Option, none, some}
use native.Mathlib.Omega.{arith}
use lib.ListN.{length, get_or, take}
use lib.Seq.{take_all}
use Rattle.base.specs.Tests.{pick}
use Rattle.base.specs.Lists.{at, at_front, present, gather, below}
use Rattle.base.specs.Sets.{in_set}
use Rattle.base.proofs.AtLaws.{none_some, some_same, at_there, take_next}
use Rattle.base.proofs.Comparable.{gather_append}
use Rattle.base.proofs.TestLaws.{Known, holds, fails, known}
use Rattle.replication.specs.Machine.Types.{Configuration}
use Rattle.replication.specs.Machine.Step.{own_state}
use Rattle.replication.specs.Runs.Run.{Run}
use Rattle.replication.proofs.Runs.Roomy.{Roomy as Allowed}
use Rattle.replication.specs.Runs.Settling.{ReachesAll, state_of, member_state, all_states}
use Rattle.replication.proofs.Runs.AllowedTurns.{memory_at}
use Rattle.replication.proofs.Runs.Memberships.{states_in_of, every_state_in}
use Rattle.replication.proofs.Runs.Stays.{membership_at}
use Rattle.replication.proofs.Agreement.Exchange.Stages.{InCom}
use Rattle.replication.proofs.Agreement.Exchange.Collected.{states_length, complete_in}
use Rattle.replication.proofs.Agreement.Exchange.SameStates.{collected_sent, collected_only}

-- ---- lists

front_append : {A : Type 0} (o : Option A) (xs ys : List A) → at_front o xs ++ ys ≡ at_front o (xs ++ ys)
unfolding at_front
front_append none xs ys = refl
front_append (some x) xs ys = refl

present_append : {A : Type 0} (xs ys : List (Option A)) → present (xs ++ ys) ≡ present xs ++ present ys
unfolding present
present_append [] ys = refl
present_append (x ∷ xs) ys = ap (at_front x) (present_append xs ys) ∙ sym (front_append x (present xs) (present ys))

at_is : {A : Type 0} (xs : List A) (k : ℕ) (x d : A) → at xs k ≡ some x → get_or xs k d ≡ x
unfolding at
at_is [] k x d e = none_some e
at_is (y ∷ xs) zero x d e = some_same e
at_is (y ∷ xs) (suc k) x d e = at_is xs k x d e

-- Values at the numbers below n, as f gives them.
pub present_below : {B : Type 0} (f : ℕ → Option B) (n : ℕ) (xs : List (Option B)) → n ≤ length xs → ((k : ℕ) → k < n → get_or xs k none ≡ f k)
    → present (take n xs) ≡ gather f (below n)
unfolding present gather below
present_below f zero xs h e = refl
present_below f (suc n) xs h e =
    let x = at_there xs n (omega arith) in
    let y : x.0 ≡ f n = sym (at_is xs n x.0 none x.1) ∙ e n (omega arith) in
    ap present (take_next xs n x.0 x.1)
    ∙ present_append (take n xs) (x.0 ∷ [])
    ∙ ap (λ z. z ++ present (x.0 ∷ [])) (present_below f n xs (omega arith) (λ k g. e k (omega arith)))
    ∙ ap (λ z. gather f (below n) ++ at_front z []) y
    ∙ sym (gather_append f (below n) (n ∷ []))

module _ {n q : ℕ} {l : Run} (A : Allowed n q l) (c : Configuration) (r : ReachesAll n q l c) (i p : ℕ) (here : InCom n q l p i c)
    (full : every_state_in (membership_at n q l p i) ≡ true) where
  at_member : (k : ℕ) → k < n → Known (in_set k c.set) → get_or (membership_at n q l p i).states k none ≡ member_state n q l c r k
  unfolding member_state state_of pick
  at_member k h (holds m) =
      let x = complete_in A i c p here full k h m in
      let y = (collected_sent A p i c here k x.0 x.1).0 in
      rw m (x.1
      ∙ ap some (y.says ∙ ap (λ z. own_state c (memory_at n q l (suc z) k)) (A.allowed.once y.at (r.took k) k c y.took (r.takes k m))))
  at_member k h (fails m) = rw m (collected_only A p i c here k m)

  pub states_are : states_in_of (membership_at n q l p i) ≡ all_states n q l c r
  unfolding all_states
  states_are =
      let e = states_length A i c p here in
      ap present (sym (take_all n (membership_at n q l p i).states (omega (arith, e))))
      ∙ present_below (member_state n q l c r) n (membership_at n q l p i).states (omega (arith, e)) (λ k h. at_member k h (known (in_set k c.set)))
