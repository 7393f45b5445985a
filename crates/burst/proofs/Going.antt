-- Bursts over states of any type: what a server keeps, its step, and a burst made of steps one event after another.
use Prim.Native.Nat.{ℕ, zero, suc, ◌+◌, ◌<◌}
use mathlib.Core.Path.{◌≡◌, refl, sym, ap, ◌∙◌}
use mathlib.Core.Bool.{Bool, true, false}
use mathlib.Core.List.{List}
use native.Mathlib.Omega.{arith}
use lib.ListN.{length, take, drop, length-drop}
use Rattle.daemons.specs.Buffers.{is_recovery}
use Rattle.burst.specs.Next.{Next}
use Rattle.burst.specs.Next.{Event, Stop}
use Rattle.burst.specs.Burst.{next_of}
use Rattle.burst.specs.Calls.{IsStep}
use Rattle.burst.proofs.NextLaws.{whole_event}
use Rattle.burst.proofs.Came.{came_from}

-- A step's answer over states of the type S, and a burst's.
pub record Answer (S : Type 0) : Type 0 where
  pub number : ℕ
  pub store : ℕ
  pub sent : ℕ
  pub state : S
  pub out : List ℕ

pub record Answers (S : Type 0) : Type 0 where
  pub number : ℕ
  pub events : ℕ
  pub bytes : ℕ
  pub store : ℕ
  pub sent : ℕ
  pub state : S
  pub out : List ℕ

module _ {S : Type 0} where
  -- "all as before"
  abbrev pub left : ℕ → S → List ℕ → Answer S
  left k s o = record { number = k; store = 0; sent = 0; state = s; out = o }

  abbrev pub stopped : ℕ → S → List ℕ → Answers S
  stopped k s o = record { number = k; events = 0; bytes = 0; store = 0; sent = 0; state = s; out = o }

  abbrev pub ended : ℕ → Answer S → Answers S
  ended m r = record { number = 0; events = 1; bytes = m; store = r.store; sent = r.sent; state = r.state; out = r.out }

  abbrev pub behind : ℕ → Answers S → Answers S
  behind m x = record {
    number = x.number;
    events = 1 + x.events;
    bytes = m + x.bytes;
    store = x.store;
    sent = x.sent;
    state = x.state;
    out = x.out;
  }

  -- A taken event that has stored and put out nothing.
  abbrev pub Silent : Answer S → Type 0
  Silent r = (r.number ≡ 0) × (r.store ≡ 0) × (r.sent ≡ 0)

  -- The last taken event's.
  abbrev pub ending : Answers S → Answer S
  ending x = record { number = 0; store = x.store; sent = x.sent; state = x.state; out = x.out }

  -- The events of the slice e that came by x; whether its first event stands first.
  abbrev pub came : Bool → Answers S → List ℕ → List (List ℕ)
  came f x e = came_from f x.number x.events x.bytes e

  abbrev pub StepOf : Answers S → ℕ → Answer S → Type 0
  StepOf x m r =
      IsStep x.number x.events m (Silent r) (r ≡ ending x) (r ≡ left x.number x.state x.out)

-- What a server keeps, of the type A: the step, the state that an event finds, and what is kept after a step with this store word and state.
pub record Server (S A : Type 0) : Type 0 where
  pub step : S → (event out : List ℕ) → Answer S
  pub source : A → List ℕ → S
  pub keep : A → ℕ → S → A
  pub refuses : (s : S) (e o : List ℕ) → ((step s e o).number ≡ 0 → ⊥) → step s e o ≡ left (step s e o).number s o
  pub unsent : (s : S) (e o : List ℕ) → (step s e o).sent ≡ 0 → (step s e o).out ≡ o
  pub kept_source : (a : A) (w : ℕ) (s : S) (e : List ℕ) → is_recovery e ≡ false → source (keep a w s) e ≡ s
  pub kept_twice : (a : A) (s t : S) (w : ℕ) → keep (keep a 0 s) w t ≡ keep a w t
  pub kept_same : (a : A) (e : List ℕ) → is_recovery e ≡ false → keep a 0 (source a e) ≡ a

-- ---- one event after another

module _ {S A : Type 0} (g : Server S A) where
  -- The burst x of the slice e from the state s and the outgoing buffer o, one event after another.
  pub data Goes : Bool → S → (e o : List ℕ) → Answers S → Type 0 where
    stops : {f : Bool} {s : S} {e o : List ℕ} {x : Answers S} (k j : ℕ) → next_of f e ≡ Stop j → x ≡ stopped k s o → Goes f s e o x
    refuses : {f : Bool} {s : S} {e o : List ℕ} {x : Answers S} (m : ℕ) → next_of f e ≡ Event m → ((g.step s (take m e) o).number ≡ 0 → ⊥)
        → x ≡ stopped (g.step s (take m e) o).number s o → Goes f s e o x
    ends : {f : Bool} {s : S} {e o : List ℕ} {x : Answers S} (m : ℕ) → next_of f e ≡ Event m → (g.step s (take m e) o).number ≡ 0
        → x ≡ ended m (g.step s (take m e) o) → Goes f s e o x
    goes : {f : Bool} {s : S} {e o : List ℕ} {x : Answers S} (m : ℕ) → next_of f e ≡ Event m → Silent (g.step s (take m e) o)
        → (y : Answers S)
        → Goes false (g.step s (take m e) o).state (drop m e) (g.step s (take m e) o).out y → x ≡ behind m y → Goes f s e o x

  -- Buffers that are refused: the step of every event gets the same number.
  pub unready_goes : (s : S) (e o : List ℕ) (k : ℕ) → (k ≡ 0 → ⊥) → ((v : List ℕ) → (g.step s v o).number ≡ k) → Goes true s e o (stopped k s o)
  unready_goes s e o k n number = go (next_of true e) refl
    where
      go : (x : Next) → next_of true e ≡ x → Goes true s e o (stopped k s o)
      go (Stop j) q = stops k j q refl
      go (Event m) q = refuses m q (λ z. n (sym (number (take m e)) ∙ z)) (ap (λ (i : ℕ). stopped i s o) (sym (number (take m e))))

  -- What a burst x makes of an event of m bytes with the answer r, and of what is behind it.
  pub data After (s : S) (o : List ℕ) (m : ℕ) (r : Answer S) (rest x : Answers S) : Type 0 where
    refused : (r.number ≡ 0 → ⊥) → x ≡ stopped r.number s o → After s o m r rest x
    last : r.number ≡ 0 → x ≡ ended m r → After s o m r rest x
    more : Silent r → x ≡ behind m rest → After s o m r rest x

  -- A burst with a bound for the number of its events.
  module _ (from : ℕ → Bool → S → (e o : List ℕ) → Answers S)
      (on_stop : (d : ℕ) (f : Bool) (s : S) (e o : List ℕ) (k : ℕ) → next_of f e ≡ Stop k → from (suc d) f s e o ≡ stopped k s o)
      (on_event : (d : ℕ) (f : Bool) (s : S) (e o : List ℕ) (m : ℕ) → next_of f e ≡ Event m
      → (let r = g.step s (take m e) o in After s o m r (from d false r.state (drop m e) r.out) (from (suc d) f s e o)))
    where
      pub from_goes : (d : ℕ) (f : Bool) (s : S) (e o : List ℕ) → length e < d → Goes f s e o (from d f s e o)
      from_goes zero f s e o l = absurd (omega arith)
      from_goes (suc d) f s e o l = go (next_of f e) refl (λ t y z q. from_goes d false t y z q)
        where
          go : (n : Next) → next_of f e ≡ n → ((t : S) (y z : List ℕ) → length y < d → Goes false t y z (from d false t y z))
              → Goes f s e o (from (suc d) f s e o)
          go (Stop k) q next = stops k k q (on_stop d f s e o k q)
          go (Event m) q next = by (on_event d f s e o m q)
            where
              r : Answer S
              r = g.step s (take m e) o

              by : After s o m r (from d false r.state (drop m e) r.out) (from (suc d) f s e o) → Goes f s e o (from (suc d) f s e o)
              by (refused z h) = refuses m q z h
              by (last z h) = ends m q z h
              by (more z h) =
                  let w = whole_event f e m q in
                  goes m q z _ (next r.state (drop m e) r.out (omega (arith, w.size, w.inside, length-drop m e))) h
