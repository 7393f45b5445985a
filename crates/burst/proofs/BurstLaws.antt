-- A burst by what comes next, and by the step of the event that does.
use Prim.Native.Nat.{ℕ, suc, ◌+◌}
use mathlib.Core.Path.{◌≡◌, refl, sym, ap, ◌∙◌}
use mathlib.Core.Bool.{Bool, true, false}
use mathlib.Core.List.{List}
use native.Mathlib.Nat.{zero-add}
use native.Mathlib.Omega.{arith}
use native.Mathlib.Decide.{ℕ_discrete}
use lib.ListN.{take, drop}
use Rattle.base.proofs.TestLaws.{not_both, pick_yes, pick_no, pick_eq, pick_ne, tests}
use Rattle.image.specs.Outcome.{Result, step_on}
use Rattle.burst.specs.Next.{Next}
use Rattle.burst.specs.Next.{Event, Stop}
use Rattle.burst.specs.Burst.{next_of, Burst, stopped, ended, behind, silent, after_step, by_next, burst_from}

pub by_stop : {A : Type 0} (x : Next) (k : ℕ) (s t : ℕ → A) → x ≡ Stop k → by_next x s t ≡ s k
unfolding by_next
by_stop {A} x k s t h = ap (λ (y : Next). by_next y s t) h

pub by_event : {A : Type 0} (x : Next) (m : ℕ) (s t : ℕ → A) → x ≡ Event m → by_next x s t ≡ t m
unfolding by_next
by_event {A} x m s t h = ap (λ (y : Next). by_next y s t) h

-- ---- one event

module _ (d : ℕ) (f : Bool) (b e o : List ℕ) where
  pub from_stop : (k : ℕ) → next_of f e ≡ Stop k → burst_from (suc d) f b e o ≡ stopped k b o
  unfolding burst_from
  from_stop k h = by_stop (next_of f e) k _ _ h

  -- The burst from an event of m bytes with the result r on.
  abbrev pub going : (m : ℕ) → Result → Burst
  going m r = after_step b o m r (burst_from d false r.state (drop m e) r.out)

  pub from_event : (m : ℕ) → next_of f e ≡ Event m → burst_from (suc d) f b e o ≡ going m (step_on b (take m e) o)
  unfolding burst_from
  from_event m h = by_event (next_of f e) m _ _ h

module _ (b o : List ℕ) (m : ℕ) (r : Result) (rest : Burst) where
  pub after_refused : (r.number ≡ 0 → ⊥) → after_step b o m r rest ≡ stopped r.number b o
  unfolding after_step
  after_refused h = sym (pick_ne r.number 0 _ _ _ h refl)

  pub after_ended : r.number ≡ 0 → silent r ≡ false → after_step b o m r rest ≡ ended m r
  unfolding after_step
  after_ended h s = sym (pick_eq r.number 0 _ _ _ h (pick_no (silent r) _ _ _ s refl))

  pub after_silent : r.number ≡ 0 → silent r ≡ true → after_step b o m r rest ≡ behind 1 m rest
  unfolding after_step
  after_silent h s = sym (pick_eq r.number 0 _ _ _ h (pick_yes (silent r) _ _ _ s refl))

-- ---- a step that a burst goes on behind

module _ (r : Result) where
  silent_stored : (r.store ≡ 0 → ⊥) → false ≡ silent r
  unfolding silent
  silent_stored h = search tests

  silent_sent : r.store ≡ 0 → (r.sent ≡ 0 → ⊥) → false ≡ silent r
  unfolding silent
  silent_sent h k = search tests

  -- It has stored and put out nothing.
  pub silent_nothing : silent r ≡ true → (r.store ≡ 0) × (r.sent ≡ 0)
  silent_nothing t = go (ℕ_discrete r.store 0) (ℕ_discrete r.sent 0)
    where
      go : Dec (r.store ≡ 0) → Dec (r.sent ≡ 0) → (r.store ≡ 0) × (r.sent ≡ 0)
      go (yes h) (yes k) = (h, k)
      go (yes h) (no k) = not_both (silent_sent h k ∙ t)
      go (no h) k = not_both (silent_stored h ∙ t)

-- ---- behind others

pub behind_none : (x : Burst) → x ≡ behind 0 0 x
unfolding behind
behind_none x = λ i. record {
  number = x.number;
  events = sym (zero-add x.events) i;
  bytes = sym (zero-add x.bytes) i;
  store = x.store;
  sent = x.sent;
  state = x.state;
  out = x.out;
}

pub behind_behind : (n k m : ℕ) (x : Burst) → behind n k (behind 1 m x) ≡ behind (n + 1) (k + m) x
unfolding behind
behind_behind n k m x =
    let events : n + (1 + x.events) ≡ n + 1 + x.events = omega arith in
    let bytes : k + (m + x.bytes) ≡ k + m + x.bytes = omega arith in
    λ i. record {
      number = x.number;
      events = events i;
      bytes = bytes i;
      store = x.store;
      sent = x.sent;
      state = x.state;
      out = x.out;
    }
