-- The taken primary, its group and the attempt, computed from the slots.
use Prim.Native.Nat.{ℕ}
use mathlib.Core.Path.{◌≡◌, refl, sym, ap, ◌∙◌}
use mathlib.Core.Bool.{Bool, true, false}
use mathlib.Core.List.{List, [], ◌∷◌}
use lib.Dec.{eqb}
use Rattle.base.specs.Tests.{◌=?◌, pick}
use Rattle.base.proofs.TestLaws.{and_no, and_yes}
use Rattle.base.specs.Lists.{filter}
use Rattle.format.specs.Types.{State, Primary, first_primary}
use Rattle.record.specs.Values.{primary_of, last_of, state_of}
use Rattle.record.specs.declared.LastPrimary.{LastPrimary}
use Rattle.record.specs.declared.events.StateHead.{StateHead}
use Rattle.replication.specs.Machine.Plan.{highest}
use Rattle.replication.specs.Machine.Exchange.{later, latest, taken_primary, same_pair, updated_group, taken_attempt}
use Rattle.exchange.specs.declared.slots.Slots.{Slots}
use Rattle.exchange.specs.Slots.{state_in, states_of, head_of}
use Rattle.exchange.specs.Folds.{folded, FirstAt, Those}
use Rattle.exchange.proofs.ReadLaws.{state_stands}

pub last_read : (v : Slots) (b : List ℕ) (k : ℕ) (x : StateHead) → x ≡ head_of v b k → x.last ≡ last_of (state_in v b k).last
unfolding state_of primary_of last_of
last_read v b k x h = ap (λ (s : State). last_of s.last) (state_stands v b k x h)

pub attempt_read : (v : Slots) (b : List ℕ) (k : ℕ) (x : StateHead) → x ≡ head_of v b k → x.attempt.0 ≡ (state_in v b k).attempt
unfolding state_of
attempt_read v b k x h = ap (λ (s : State). s.attempt) (state_stands v b k x h)

-- ---- the taken primary

-- The later one, and p where neither is: a turn of `latest`.
unfoldable pub chosen : LastPrimary → State → LastPrimary
chosen p x = pick (later (primary_of p) x.last) (last_of x.last) p

pub chosen_made : (p q r : LastPrimary) (x : State) → q ≡ last_of x.last → r ≡ pick (later (primary_of p) (primary_of q)) q p → r ≡ chosen p x
unfolding chosen primary_of last_of
chosen_made p q r x e i = i ∙ ap (λ (y : LastPrimary). pick (later (primary_of p) (primary_of y)) y p) e

primary_pick : (t : Bool) (y : Primary) (p : LastPrimary) → primary_of (pick t (last_of y) p) ≡ pick t y (primary_of p)
unfolding pick primary_of last_of
primary_pick true y p = refl
primary_pick false y p = refl

latest_folded : (xs : List State) (p : LastPrimary) → primary_of (folded chosen p xs) ≡ latest (primary_of p) xs
unfolding folded latest chosen
latest_folded [] p = refl
latest_folded (x ∷ xs) p = latest_folded xs (chosen p x) ∙ ap (λ (y : Primary). latest y xs) (primary_pick (later (primary_of p) x.last) x.last p)

pick_same : {A : Type 0} (t : Bool) (x : A) → pick t x x ≡ x
unfolding pick
pick_same true x = refl
pick_same false x = refl

latest_twice : (x : State) (xs : List State) → primary_of (folded chosen (last_of x.last) (x ∷ xs)) ≡ taken_primary (x ∷ xs)
unfolding latest taken_primary primary_of last_of
latest_twice x xs = latest_folded (x ∷ xs) (last_of x.last) ∙ ap (λ (y : Primary). latest y xs) (pick_same (later x.last x.last) x.last)

pub taken_made : (v : Slots) (b : List ℕ) (k : ℕ) (p r : LastPrimary) → FirstAt v b k → p ≡ last_of (state_in v b k).last
    → r ≡ folded chosen p (states_of v b) → primary_of r ≡ taken_primary (states_of v b)
taken_made v b k p r s e i =
    ap primary_of i
    ∙ (λ j. primary_of (folded chosen (e j) (s.states j)))
    ∙ latest_twice (state_in v b k) _
    ∙ ap taken_primary (sym s.states)

pub taken_none : (v : Slots) (b : List ℕ) (p : LastPrimary) → states_of v b ≡ [] → p ≡ last_of (first_primary 0) → primary_of p ≡ taken_primary (states_of v b)
unfolding taken_primary primary_of last_of
taken_none v b p h e = ap primary_of e ∙ sym (ap taken_primary h)

-- ---- the group and its attempt

pub pair_not : (p x : LastPrimary) (s : State) (r : Bool) → x ≡ last_of s.last → r ≡ eqb x.index.0 p.index.0 → r ≡ false → r ≡ same_pair (primary_of p) s
unfolding same_pair primary_of last_of ◌=?◌
pair_not p x s r e i f = f ∙ and_no _ _ (sym (ap (λ (y : LastPrimary). eqb y.index.0 p.index.0) e) ∙ sym i ∙ f)

pub pair_told : (p x : LastPrimary) (s : State) (r : Bool) → x ≡ last_of s.last → true ≡ eqb x.index.0 p.index.0 → r ≡ eqb x.attempt.0 p.attempt.0
    → r ≡ same_pair (primary_of p) s
unfolding same_pair primary_of last_of ◌=?◌
pair_told p x s r e i f =
    and_yes _ _ _ (sym (i ∙ ap (λ (y : LastPrimary). eqb y.index.0 p.index.0) e)) (f ∙ ap (λ (y : LastPrimary). eqb y.attempt.0 p.attempt.0) e)

pub attempt_made : (v w : Slots) (b c : List ℕ) (p : LastPrimary) (x : ℕ) → primary_of p ≡ taken_primary (states_of v b)
    → Those (same_pair (primary_of p)) v b w c → x ≡ highest (λ s. s.attempt) (states_of w c) → x ≡ taken_attempt (states_of v b)
unfolding taken_attempt updated_group
attempt_made v w b c p x e g h =
    h ∙ ap (highest (λ s. s.attempt)) g.states ∙ ap (λ (y : Primary). highest (λ s. s.attempt) (filter (same_pair y) (states_of v b))) e
