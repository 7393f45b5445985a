-- A burst with a register by its first event: what comes next, as a burst of one event, and the rest behind it.
use Prim.Native.Nat.{ℕ, suc, ◌+◌, ◌≤◌}
use mathlib.Core.Path.{◌≡◌, refl, sym, ap, subst, ◌∙◌}
use mathlib.Core.Bool.{Bool, true, false, not}
use mathlib.Core.List.{List}
use native.Mathlib.Nat.{zero-add}
use native.Mathlib.Omega.{arith}
use lib.ListN.{length, take, drop}
use borrow.Author.Tests.{not-true, not-false}
use Rattle.base.specs.Tests.{◌and◌, ◌or◌, ◌=?◌}
use Rattle.base.proofs.TestLaws.{Known, known, holds, fails, not_both, and_holds, eq_holds, eq_fails, pick_yes, pick_no, pick_eq, pick_ne}
use Rattle.base.proofs.Branches.{or_yes, or_no}
use Rattle.image.specs.Decode.{greens_in}
use Rattle.burst.specs.Next.{Next}
use Rattle.burst.specs.Next.{Event, Stop}
use Rattle.burst.specs.Burst.{next_of}
use Rattle.burst.proofs.NextLaws.{whole_event}
use Rattle.burst.proofs.BurstLaws.{by_stop, by_event}
use Rattle.register_runs.specs.Joint.{Joint, joint_number, joint_on}
use Rattle.register_step.specs.Burst.{JointBurst, stopped, ended, behind, silent, after_joint, burst_from}
use Rattle.register_step.proofs.EventLaws.{joint_goes}

-- y, behind n events of m bytes together that have stored and put out nothing, turned g actions green and had j of their operations refused.
unfoldable pub past : (n m g j : ℕ) → JointBurst → JointBurst
past n m g j y = record {
  number = y.number;
  events = n + y.events;
  bytes = m + y.bytes;
  store = y.store;
  sent = y.sent;
  greened = g + y.greened;
  refused = j + y.refused;
  state = y.state;
  register = y.register;
  out = y.out;
}

pub past_none : (y : JointBurst) → y ≡ past 0 0 0 0 y
unfolding past
past_none y = λ i. record {
  number = y.number;
  events = sym (zero-add y.events) i;
  bytes = sym (zero-add y.bytes) i;
  store = y.store;
  sent = y.sent;
  greened = sym (zero-add y.greened) i;
  refused = sym (zero-add y.refused) i;
  state = y.state;
  register = y.register;
  out = y.out;
}

pub past_past : (n m g j n' m' g' j' : ℕ) (y : JointBurst) → past n m g j (past n' m' g' j' y) ≡ past (n + n') (m + m') (g + g') (j + j') y
unfolding past
past_past n m g j n' m' g' j' y =
    let events : n + (n' + y.events) ≡ n + n' + y.events = omega arith in
    let bytes : m + (m' + y.bytes) ≡ m + m' + y.bytes = omega arith in
    let greened : g + (g' + y.greened) ≡ g + g' + y.greened = omega arith in
    let refused : j + (j' + y.refused) ≡ j + j' + y.refused = omega arith in
    λ i. record {
      number = y.number;
      events = events i;
      bytes = bytes i;
      store = y.store;
      sent = y.sent;
      greened = greened i;
      refused = refused i;
      state = y.state;
      register = y.register;
      out = y.out;
    }

-- ---- what comes next

-- An event that has stored and put out nothing, and none behind it.
behind_none : (m : ℕ) (x : Joint) → silent x ≡ true → behind m x (stopped 0 x.state x.register x.out) ≡ ended m x
unfolding behind stopped ended silent
behind_none m x s =
    let still = and_holds (x.store =? 0) (x.sent =? 0) s in
    let store : 0 ≡ x.store = sym (eq_holds x.store 0 still.0) in
    let sent : 0 ≡ x.sent = sym (eq_holds x.sent 0 still.1) in
    let bytes : m + 0 ≡ m = omega arith in
    let greened : x.greened + 0 ≡ x.greened = omega arith in
    let refused : x.refused + 0 ≡ x.refused = omega arith in
    λ i. record {
      number = 0;
      events = 1;
      bytes = bytes i;
      store = store i;
      sent = sent i;
      greened = greened i;
      refused = refused i;
      state = x.state;
      register = x.register;
      out = x.out;
    }

module _ (f : Bool) (b r e o : List ℕ) where
  pub from_stop : (k d : ℕ) → next_of f e ≡ Stop k → burst_from (suc d) f b r e o ≡ stopped k b r o
  unfolding burst_from
  from_stop k d h = by_stop (next_of f e) k _ _ h

  module _ (m : ℕ) (h : next_of f e ≡ Event m) where
    -- The answer to the event, and the events behind it.
    abbrev x : Joint
    x = joint_on b r (take m e) o

    abbrev rest : ℕ → JointBurst
    rest d = burst_from d false x.state x.register (drop m e) x.out

    from_event : (d : ℕ) → burst_from (suc d) f b r e o ≡ after_joint b r o m x (rest d)
    unfolding burst_from
    from_event d = by_event (next_of f e) m _ _ h

    pub from_refused : (x.number ≡ 0 → ⊥) → (d : ℕ) → burst_from (suc d) f b r e o ≡ stopped x.number b r o
    unfolding after_joint
    from_refused n d = from_event d ∙ sym (pick_ne x.number 0 _ _ _ n refl)

    module _ (z : x.number ≡ 0) where
      from_last : silent x ≡ false → (d : ℕ) → burst_from (suc d) f b r e o ≡ ended m x
      unfolding after_joint
      from_last s d = from_event d ∙ sym (pick_eq x.number 0 _ _ _ z (pick_no (silent x) _ _ _ s refl))

      from_silent : silent x ≡ true → (d : ℕ) → burst_from (suc d) f b r e o ≡ behind m x (rest d)
      unfolding after_joint
      from_silent s d = from_event d ∙ sym (pick_eq x.number 0 _ _ _ z (pick_yes (silent x) _ _ _ s refl))

      none_behind : rest 0 ≡ stopped 0 x.state x.register x.out
      unfolding burst_from
      none_behind = refl

      -- A burst of one event ends with it.
      pub from_one : burst_from 1 f b r e o ≡ ended m x
      from_one = go (known (silent x))
        where
          go : Known (silent x) → burst_from 1 f b r e o ≡ ended m x
          go (fails s) = from_last s 0
          go (holds s) = from_silent s 0 ∙ ap (behind m x) none_behind ∙ behind_none m x s

  -- What comes next: nothing that is taken, or an event.
  pub data First : Type 0 where
    none : (k : ℕ) → ((d : ℕ) → burst_from (suc d) f b r e o ≡ stopped k b r o) → First
    event : (m : ℕ) → next_of f e ≡ Event m → (joint_on b r (take m e) o).number ≡ 0 → First

  pub first : First
  first = go (next_of f e) refl
    where
      go : (n : Next) → next_of f e ≡ n → First
      go (Stop k) h = none k (λ d. from_stop k d h)
      go (Event m) h = by (known ((joint_on b r (take m e) o).number =? 0))
        where
          by : Known ((joint_on b r (take m e) o).number =? 0) → First
          by (fails n) = none (joint_on b r (take m e) o).number (from_refused m h (eq_fails (joint_on b r (take m e) o).number 0 n))
          by (holds z) = event m h (eq_holds (joint_on b r (take m e) o).number 0 z)

-- ---- a burst of one event, and the rest behind it

-- The burst y from the state b, over e: buffers whose number is 0, a green history that is longer by what y says, and no more than there is.
pub record GoesOn (b e : List ℕ) (y : JointBurst) : Type 0 where
  pub ready : joint_number y.state y.register y.out ≡ 0
  pub grown : length (greens_in y.state) ≡ length (greens_in b) + y.greened
  pub fewer : y.refused ≤ y.greened
  pub inside : y.bytes ≤ length e
  pub few : y.events ≤ y.bytes

-- Nothing is taken, or the event has stored or put out records.
unfoldable pub last_one : JointBurst → Bool
last_one y = y.events =? 0 or not (y.store =? 0 and y.sent =? 0)

module _ (f : Bool) (b r e o : List ℕ) where
  abbrev one : JointBurst
  one = burst_from 1 f b r e o

  pub one_goes : joint_number b r o ≡ 0 → GoesOn b e one
  unfolding stopped ended
  one_goes z = go (first f b r e o)
    where
      go : First f b r e o → GoesOn b e one
      go (none k h) = subst (GoesOn b e) (sym (h 0))
          (record { ready = z; grown = omega arith; fewer = omega arith; inside = omega arith; few = omega arith })
      go (event m h n) =
          let w = whole_event f e m h in
          let g = joint_goes b r o z (take m e) in
          subst (GoesOn b e) (sym (from_one f b r e o m h n))
          (record { ready = g.ready; grown = g.grown; fewer = g.fewer; inside = w.inside; few = omega (arith, w.size) })

  -- A burst that ends with its first event.
  last_event : (m : ℕ) (h : next_of f e ≡ Event m) (n : (joint_on b r (take m e) o).number ≡ 0) → not (silent (joint_on b r (take m e) o)) ≡ last_one one
  unfolding ended last_one silent ◌=?◌
  last_event m h n = or_no _ false _ refl refl ∙ ap last_one (sym (from_one f b r e o m h n))

  -- It is the whole burst.
  pub one_whole : last_one one ≡ true → (d : ℕ) → burst_from (suc d) f b r e o ≡ one
  one_whole q d = go (first f b r e o)
    where
      go : First f b r e o → burst_from (suc d) f b r e o ≡ one
      go (none k h) = h d ∙ sym (h 0)
      go (event m h n) =
          from_last f b r e o m h n (not-true (silent (joint_on b r (take m e) o)) (last_event m h n ∙ q)) d ∙ sym (from_one f b r e o m h n)

  module _ (on : last_one one ≡ false) where
    none_last : (k : ℕ) → one ≡ stopped k b r o → ⊥
    unfolding stopped last_one ◌=?◌
    none_last k h = not_both (sym on ∙ ap last_one h ∙ sym (or_yes true _ refl))

    pub one_some : one.events ≡ 1
    unfolding ended
    one_some = go (first f b r e o)
      where
        go : First f b r e o → one.events ≡ 1
        go (none k h) = absurd (none_last k (h 0))
        go (event m h z) = ap (λ (y : JointBurst). y.events) (from_one f b r e o m h z)

    -- The rest stands behind it.
    pub one_more_lem : (d : ℕ)
        → burst_from (suc d) f b r e o
        ≡ past one.events one.bytes one.greened one.refused (burst_from d false one.state one.register (drop one.bytes e) one.out)
    unfolding ended behind past
    one_more_lem d = go (first f b r e o)
      where
        go : First f b r e o → burst_from (suc d) f b r e o
            ≡ past one.events one.bytes one.greened one.refused (burst_from d false one.state one.register (drop one.bytes e) one.out)
        go (none k h) = absurd (none_last k (h 0))
        go (event m h z) =
            from_silent f b r e o m h z (not-false (silent (joint_on b r (take m e) o)) (last_event m h z ∙ on)) d
            ∙ ap (λ (y : JointBurst). past y.events y.bytes y.greened y.refused (burst_from d false y.state y.register (drop y.bytes e) y.out))
            (sym (from_one f b r e o m h z))
