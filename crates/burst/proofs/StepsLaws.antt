-- A burst is its single steps one after another.
use Prim.Native.Nat.{ℕ, zero, suc, ◌+◌, ◌<◌}
use mathlib.Core.Path.{◌≡◌, refl, sym, ap, subst, ◌∙◌}
use mathlib.Core.Bool.{Bool, true, false}
use mathlib.Core.List.{List, [], ◌∷◌, ◌++◌, append-nil}
use native.Mathlib.Omega.{arith}
use lib.ListN.{length, take, drop, length-drop}
use lib.Seq.{take-add, drop-drop}
use Rattle.base.specs.Tests.{◌and◌, ◌=?◌, pick}
use Rattle.base.proofs.TestLaws.{pick_as, and_holds, eq_holds, eq_fails, eq_no, Known, holds, fails, known}
use Rattle.base.proofs.Branches.{and_true, and_false}
use Rattle.base.specs.Bytes.{joined}
use Rattle.base.specs.Lists.{Each}
use Rattle.image.specs.Outcome.{Result, refusal, step_on, state_number}
use Rattle.daemons.specs.Buffers.{is_recovery}
use Rattle.daemons.specs.Sending.{first_size}
use Rattle.burst.specs.Next.{Next}
use Rattle.burst.specs.Next.{Event, Stop}
use Rattle.burst.specs.Burst.{next_of, Burst, stopped, ended, behind, silent, after_step, burst_from, burst_all, burst_on}
use Rattle.burst.specs.Steps.{untouched, steps_after, Stops, unready, spoke, halted, refused, IsSteps, BurstIsSteps}
use Rattle.burst.proofs.NextLaws.{Whole, whole_event, whole_said}
use Rattle.burst.proofs.BurstLaws.{from_stop, from_event, after_refused, after_ended, after_silent}

-- No event is a recovery behind another one.
abbrev Running : Bool → List (List ℕ) → Type 0
Running f l = Each (λ v. is_recovery v ≡ false) (pick f (drop 1 l) l)

none_running : (f : Bool) → Running f []
unfolding pick
none_running true = tt
none_running false = tt

next_running : (f : Bool) (v : List ℕ) (l : List (List ℕ)) → (f ≡ false → is_recovery v ≡ false) → Running false l → Running f (v ∷ l)
unfolding pick
next_running true v l h r = r
next_running false v l h r = (h refl, r)

untouched_silent : (b o : List ℕ) → silent (untouched b o) ≡ true
unfolding silent refusal ◌=?◌ ◌and◌
untouched_silent b o = refl

-- ---- nothing taken

stopped_steps : (f : Bool) (b e o : List ℕ) (k : ℕ) → Stops f e (stopped k b o) → IsSteps f b e o (stopped k b o)
unfolding stopped steps_after refusal joined ◌=?◌
stopped_steps f b e o k s = record {
  taken = [];
  count = refl;
  inside = omega arith;
  cut = refl;
  sizes = tt;
  running = none_running f;
  steps = refl;
  before = λ j l. absurd (omega arith);
  stops = subst (λ (t : Bool). Stops t e (stopped k b o)) (and_true f) s;
}

stops_here : (f : Bool) (b e o : List ℕ) (k : ℕ) → next_of f e ≡ Stop k → Stops f e (stopped k b o)
unfolding stopped
stops_here f b e o k h = halted h

not_ready : (b e o : List ℕ) → (state_number b o ≡ 0 → ⊥) → Stops true e (stopped (state_number b o) b o)
unfolding stopped
not_ready b e o h = unready refl refl h

-- ---- one event, and those behind it

stops_behind : (t : Bool) (rest : List ℕ) (m : ℕ) (x : Burst) → Stops t rest x → Stops t rest (behind 1 m x)
unfolding behind
stops_behind t rest m x (unready p h n) = unready p h n
stops_behind t rest m x (spoke h n) = spoke h n
stops_behind t rest m x (halted h) = halted h
stops_behind t rest m x (refused j h q n) = refused j h q n

module _ (f : Bool) (b e o : List ℕ) (m : ℕ) (w : Whole f e m) where
  abbrev r : Result
  r = step_on b (take m e) o

  size_said : first_size (take m e) ≡ length (take m e)
  size_said = whole_said f e m w

  module _ (z : r.number ≡ 0) where
    ended_steps : silent r ≡ false → IsSteps f b e o (ended m r)
    unfolding ended steps_after refusal joined silent
    ended_steps s = record {
      taken = take m e ∷ [];
      count = refl;
      inside = w.inside;
      cut = append-nil (take m e);
      sizes = (size_said, tt);
      running = next_running f (take m e) [] w.running (none_running false);
      steps = λ i. record { number = z i; store = r.store; sent = r.sent; state = r.state; out = r.out };
      before = before;
      stops = spoke refl s;
    }
      where
        before : (k : ℕ) → k < 1
            → ((steps_after (untouched b o) (take k (take m e ∷ []))).number ≡ 0) × (silent (steps_after (untouched b o) (take k (take m e ∷ []))) ≡ true)
        before zero l = (refl, untouched_silent b o)
        before (suc k) l = absurd (omega arith)

    module _ (s : silent r ≡ true) where
      result_is : r ≡ untouched r.state r.out
      unfolding silent refusal
      result_is =
          let p = and_holds (r.store =? 0) (r.sent =? 0) s in
          let store : r.store ≡ 0 = eq_holds r.store 0 p.0 in
          let sent : r.sent ≡ 0 = eq_holds r.sent 0 p.1 in
          λ i. record { number = z i; store = store i; sent = sent i; state = r.state; out = r.out }

      behind_steps : (x : Burst) → IsSteps false r.state (drop m e) r.out x → IsSteps f b e o (behind 1 m x)
      unfolding behind steps_after refusal joined ◌and◌
      behind_steps x y = record {
        taken = take m e ∷ y.taken;
        count = omega (arith, y.count);
        inside = omega (arith, y.inside, length-drop m e, w.inside);
        cut = ap (λ (l : List ℕ). take m e ++ l) y.cut ∙ sym (take-add m x.bytes e);
        sizes = (size_said, y.sizes);
        running = next_running f (take m e) y.taken w.running y.running;
        steps = ap (λ (q : Result). steps_after q y.taken) result_is ∙ y.steps;
        before = before;
        stops = subst (λ (t : Bool). Stops t (drop (m + x.bytes) e) (behind 1 m x)) later
            (subst (λ (l : List ℕ). Stops false l (behind 1 m x)) (drop-drop x.bytes m e)
            (stops_behind false (drop x.bytes (drop m e)) m x y.stops));
      }
        where
          later : false ≡ (f and (1 + x.events) =? 0)
          later = and_false f ∙ ap (λ (t : Bool). f and t) (sym (eq_no (1 + x.events) 0 (λ q. absurd (omega arith))))

          before : (k : ℕ) → k < length (take m e ∷ y.taken)
              → ((steps_after (untouched b o) (take k (take m e ∷ y.taken))).number ≡ 0)
              × (silent (steps_after (untouched b o) (take k (take m e ∷ y.taken))) ≡ true)
          before zero l = (refl, untouched_silent b o)
          before (suc k) l =
              subst (λ (q : Result). ((steps_after q (take k y.taken)).number ≡ 0) × (silent (steps_after q (take k y.taken)) ≡ true))
              (sym result_is) (y.before k (omega arith))

-- ---- the whole

module _ (d : ℕ) (f : Bool) (b e o : List ℕ) (m : ℕ) (q : next_of f e ≡ Event m) where
  abbrev x : Result
  x = step_on b (take m e) o

  abbrev rest : Burst
  rest = burst_from d false x.state (drop m e) x.out

  event_steps : IsSteps false x.state (drop m e) x.out rest → IsSteps f b e o (after_step b o m x rest)
  unfolding stopped
  event_steps y = go (known (x.number =? 0)) (known (silent x))
    where
      w : Whole f e m
      w = whole_event f e m q

      go : Known (x.number =? 0) → Known (silent x) → IsSteps f b e o (after_step b o m x rest)
      go (fails n) s =
          let off : x.number ≡ 0 → ⊥ = eq_fails x.number 0 n in
          subst (IsSteps f b e o) (sym (after_refused b o m x rest off)) (stopped_steps f b e o x.number (refused m q refl off))
      go (holds z) (fails s) =
          let zero_is = eq_holds x.number 0 z in
          subst (IsSteps f b e o) (sym (after_ended b o m x rest zero_is s)) (ended_steps f b e o m w zero_is s)
      go (holds z) (holds s) =
          let zero_is = eq_holds x.number 0 z in
          subst (IsSteps f b e o) (sym (after_silent b o m x rest zero_is s)) (behind_steps f b e o m w zero_is s rest y)

from_steps : (d : ℕ) (f : Bool) (b e o : List ℕ) → length e < d → IsSteps f b e o (burst_from d f b e o)
from_steps zero f b e o l = absurd (omega arith)
from_steps (suc d) f b e o l = go (next_of f e) refl (λ x y z q. from_steps d false x y z q)
  where
    go : (n : Next) → next_of f e ≡ n → ((x y z : List ℕ) → length y < d → IsSteps false x y z (burst_from d false x y z))
        → IsSteps f b e o (burst_from (suc d) f b e o)
    go (Stop k) q next =
        subst (IsSteps f b e o) (sym (from_stop d f b e o k q)) (stopped_steps f b e o k (stops_here f b e o k q))
    go (Event m) q next =
        let w = whole_event f e m q in
        subst (IsSteps f b e o) (sym (from_event d f b e o m q))
        (event_steps d f b e o m q
        (next (step_on b (take m e) o).state (drop m e) (step_on b (take m e) o).out (omega (arith, w.size, w.inside, length-drop m e))))

pub burst_is_steps : BurstIsSteps
unfolding BurstIsSteps burst_on burst_all
burst_is_steps b e o =
    pick_as (IsSteps true b e o) (state_number b o =? 0) _ _ (λ z. from_steps (suc (length e)) true b e o (omega arith))
    (λ n. stopped_steps true b e o (state_number b o) (not_ready b e o (eq_fails (state_number b o) 0 n)))
