-- Calls to many servers, whatever each of them keeps: every call makes what its entries make one after another, and the steps of a burst's events
-- answer as the burst does.
use Prim.Native.Nat.{ℕ, zero, suc, ◌+◌, ◌<◌}
use mathlib.Core.Path.{◌≡◌, refl, sym, ap, subst, ◌∙◌, fun_ext}
use mathlib.Core.Bool.{Bool, true, false}
use mathlib.Core.List.{List, [], ◌∷◌}
use mathlib.Core.Option.{some}
use native.Mathlib.Omega.{arith}
use lib.ListN.{take}
use Rattle.base.specs.Tests.{◌=?◌, pick}
use Rattle.base.specs.Lists.{at, upd}
use Rattle.base.proofs.AtLaws.{none_some, some_same, at_low, at_single, at_map, Upd, here, elsewhere, upd?, upd_here}
use Rattle.replication.specs.Runs.Run.{Entry, event, crash, Run}
use Rattle.daemons.specs.Sending.{first_size}
use Rattle.burst.specs.Calls.{Call, alone, together, came_by, events_at, System, kept_at, place_of, ran_by, call_of}
use Rattle.burst.proofs.Places.{entry_at, entry_call, StandsAt, stands_at, through, inside, kept_follows}
use Rattle.burst.proofs.Came.{came_first}
use Rattle.burst.proofs.Going.{Answers, StepOf, Server, Goes}
use Rattle.burst.proofs.Taking.{kept, down, Ran, burst_ran}

-- ---- maps

module _ {A : Type 0} (f : ℕ → A) (i : ℕ) where
  upd_own : upd f i (f i) ≡ f
  upd_own = fun_ext (λ j. go j (upd? f i (f i) j))
    where
      go : (j : ℕ) → Upd f i (f i) j → upd f i (f i) j ≡ f j
      go j (here p e) = e ∙ ap f (sym p)
      go j (elsewhere p e) = e

  upd_twice : (a b : A) → upd (upd f i a) i b ≡ upd f i b
  unfolding upd pick
  upd_twice a b = fun_ext (λ j. go (j =? i) (f j))
    where
      go : (t : Bool) (c : A) → pick t b (pick t a c) ≡ pick t b c
      go true c = refl
      go false c = refl

-- ---- events as entries

module _ (i n : ℕ) where
  at_events : (l : List (List ℕ)) (m : ℕ) (v : List ℕ) → at l m ≡ some v → at (events_at i n l) m ≡ some (event i v n)
  unfolding events_at at
  at_events [] m v h = none_some h
  at_events (w ∷ l) zero v h = ap (λ (y : List ℕ). some (event i y n)) (some_same h)
  at_events (w ∷ l) (suc m) v h = at_events l m v h

  take_events : (m : ℕ) (l : List (List ℕ)) → take m (events_at i n l) ≡ events_at i n (take m l)
  unfolding events_at
  take_events zero l = refl
  take_events (suc m) [] = refl
  take_events (suc m) (w ∷ l) = ap (λ (r : Run). event i w n ∷ r) (take_events m l)

pub crash_no_event : (i j k : ℕ) (v : List ℕ) → crash i ≡ event j v k → ⊥
crash_no_event i j k v h = let z : ◌≡◌ {A = ℕ} 0 1 = cc in absurd (omega arith)

-- What all servers keep, of the type K: what each of them keeps, and which are down.
pub record Servers (A K : Type 0) : Type 0 where
  pub make : (ℕ → A) → (ℕ → Bool) → K
  pub each : K → ℕ → A
  pub downs : K → ℕ → Bool
  pub make_same : (k : K) → make (each k) (downs k) ≡ k
  pub made_each : (f : ℕ → A) (u : ℕ → Bool) → each (make f u) ≡ f
  pub made_downs : (f : ℕ → A) (u : ℕ → Bool) → downs (make f u) ≡ u

module _ {S A K : Type 0} (g : Server S A) (c : Servers A K) where
  -- ---- events of one server

  -- The server i with this instead, and whether it is down.
  abbrev pub put : K → ℕ → A → Bool → K
  put k i a u = c.make (upd (c.each k) i a) (upd (c.downs k) i u)

  put_own : (k : K) (i : ℕ) → put k i (c.each k i) (c.downs k i) ≡ k
  put_own k i = (λ j. c.make (upd_own (c.each k) i j) (upd_own (c.downs k) i j)) ∙ c.make_same k

  put_each : (k : K) (i : ℕ) (a : A) (u : Bool) → c.each (put k i a u) i ≡ a
  put_each k i a u = ap (λ (f : ℕ → A). f i) (c.made_each _ _) ∙ upd_here (c.each k) i a

  put_downs : (k : K) (i : ℕ) (a : A) (u : Bool) → c.downs (put k i a u) i ≡ u
  put_downs k i a u = ap (λ (f : ℕ → Bool). f i) (c.made_downs _ _) ∙ upd_here (c.downs k) i u

  put_twice : (k : K) (i : ℕ) (a b : A) (u v : Bool) → put (put k i a u) i b v ≡ put k i b v
  put_twice k i a b u v =
      (λ j. c.make (upd (c.made_each (upd (c.each k) i a) (upd (c.downs k) i u) j) i b)
      (upd (c.made_downs (upd (c.each k) i a) (upd (c.downs k) i u) j) i v))
      ∙ (λ j. c.make (upd_twice (c.each k) i a b j) (upd_twice (c.downs k) i u v j))

  -- What an event makes of them.
  abbrev pub by_step : K → (o : List ℕ) → ℕ → List ℕ → K
  by_step k o i v =
      let r = g.step (g.source (c.each k i) v) v o in
      put k i (g.keep (c.each k i) r.store r.state) (pick (r.number =? 0) false (c.downs k i))

  module _ (o : List ℕ) (entry : K → Entry → K) (on_event : (k : K) (i n : ℕ) (v : List ℕ) → entry k (event i v n) ≡ by_step k o i v) (i n : ℕ) where
    through_events : (l : List (List ℕ)) (k : K)
        → through entry k (events_at i n l) ≡ put k i (kept g (c.each k i) o l) (down g (c.each k i) (c.downs k i) o l)
    unfolding through events_at
    through_events [] k = sym (put_own k i)
    through_events (v ∷ l) k =
        let r = g.step (g.source (c.each k i) v) v o in
        let a : A = g.keep (c.each k i) r.store r.state in
        let u : Bool = pick (r.number =? 0) false (c.downs k i) in
        ap (λ (t : K). through entry t (events_at i n l)) (on_event k i n v)
        ∙ through_events l (put k i a u)
        ∙ (λ j. put (put k i a u) i (kept g (put_each k i a u j) o l) (down g (put_each k i a u j) (put_downs k i a u j) o l))
        ∙ put_twice k i a (kept g a o l) u (down g a u o l)

    through_each : (l : List (List ℕ)) (k : K) → c.each (through entry k (events_at i n l)) i ≡ kept g (c.each k i) o l
    through_each l k = ap (λ (t : K). c.each t i) (through_events l k) ∙ put_each k i _ _

-- ---- calls

-- The system s, by the number of a call: the outgoing buffer, what an entry makes of what is kept, a burst's answers, what the calls make, and what
-- is kept at each place of the run.
pub record Behaves {S A K : Type 0} (g : Server S A) (c : Servers A K) (s : System K) : Type 0 where
  pub out : ℕ → List ℕ
  pub entry : ℕ → K → Entry → K
  pub burst : A → (events out : List ℕ) → Answers S
  pub on_event : (j : ℕ) (k : K) (i n : ℕ) (v : List ℕ) → entry j k (event i v n) ≡ by_step g c k (out j) i v
  pub burst_goes : (a : A) (e o : List ℕ) → Goes g true (g.source a (take (first_size e) e)) e o (burst a e o)
  pub alone_after : (j : ℕ) (k : K) (y : Entry) → s.after j k (alone y) ≡ entry j k y
  pub alone_entries : (j : ℕ) (k : K) (y : Entry) → s.entries j k (alone y) ≡ y ∷ []
  pub together_after : (j : ℕ) (k : K) (i n : ℕ) (e : List ℕ) → s.after j k (together i e n)
      ≡ (let x = burst (c.each k i) e (out j) in put g c k i (g.keep (c.each k i) x.store x.state) (pick (x.events =? 0) (c.downs k i) false))
  pub together_entries : (j : ℕ) (k : K) (i n : ℕ) (e : List ℕ) → s.entries j k (together i e n)
      ≡ (let x = burst (c.each k i) e (out j) in events_at i n (came_by x.number x.events x.bytes e))
  pub keeps : ℕ → K
  pub begins : keeps 0 ≡ s.first
  pub goes : (p : ℕ) (y : Entry) → at (ran_by s) p ≡ some y → keeps (suc p) ≡ entry (call_of s p) (keeps p) y

module _ {S A K : Type 0} (g : Server S A) (c : Servers A K) (s : System K) (b : Behaves g c s) where
  ran : (a : A) (u : Bool) (e o : List ℕ) (x : Answers S) → b.burst a e o ≡ x → Ran g a u o (came_by x.number x.events x.bytes e) x
  ran a u e o x h =
      subst (λ (l : List (List ℕ)). Ran g a u o l x) (sym (came_first x.number x.events x.bytes e))
      (burst_ran g a u e o x (subst (Goes g true (g.source a (take (first_size e) e)) e o) h (b.burst_goes a e o)))

  -- A call makes what its entries make one after another.
  law : (j : ℕ) (k : K) (y : Call) → s.after j k y ≡ through (b.entry j) k (s.entries j k y)
  unfolding through
  law j k (alone y) = b.alone_after j k y ∙ ap (through (b.entry j) k) (sym (b.alone_entries j k y))
  law j k (together i e n) =
      let x : Answers S = b.burst (c.each k i) e (b.out j) in
      let l : List (List ℕ) = came_by x.number x.events x.bytes e in
      let r : Ran g (c.each k i) (c.downs k i) (b.out j) l x = ran (c.each k i) (c.downs k i) e (b.out j) x refl in
      b.together_after j k i n e
      ∙ sym (λ m. put g c k i (r.kept_is m) (r.down_is m))
      ∙ sym (through_events g c (b.out j) (b.entry j) (b.on_event j) i n l k)
      ∙ ap (through (b.entry j) k) (sym (b.together_entries j k i n e))

  pub calls_kept : (j : ℕ) → kept_at s j ≡ b.keeps (place_of s j)
  calls_kept j = kept_follows s b.entry law b.keeps b.begins b.goes j

  -- An entry of the run that is no event is a call by itself.
  pub calls_alone : (p : ℕ) (y : Entry) → at (ran_by s) p ≡ some y → ((i n : ℕ) (v : List ℕ) → y ≡ event i v n → ⊥)
      → at s.calls (call_of s p) ≡ some (alone y)
  unfolding events_at
  calls_alone p y h other = go t.call t.there t.is
    where
      t : StandsAt s p y
      t = stands_at s p y h

      number_is : call_of s p ≡ t.number
      number_is =
          ap (call_of s) t.place ∙ entry_call s t.number t.call t.there t.entry (at_low _ _ y t.is)

      came : (i : ℕ) (e : List ℕ) (n : ℕ) → List (List ℕ)
      came i e n = let x = b.burst (c.each (kept_at s t.number) i) e (b.out t.number) in came_by x.number x.events x.bytes e

      go : (x : Call) → at s.calls t.number ≡ some x → at (s.entries t.number (kept_at s t.number) x) t.entry ≡ some y
          → at s.calls (call_of s p) ≡ some (alone y)
      go (alone z) there is =
          ap (at s.calls) number_is ∙ there
          ∙ ap (λ (w : Entry). some (alone w))
          (sym (at_single z t.entry y (ap (λ (l : Run). at l t.entry) (sym (b.alone_entries t.number (kept_at s t.number) z)) ∙ is)).1)
      go (together i e n) there is =
          let made = at_map (λ v. event i v n) (came i e n) t.entry y
          (ap (λ (l : Run). at l t.entry) (sym (b.together_entries t.number (kept_at s t.number) i n e)) ∙ is) in
          absurd (other i n made.0 made.2)

  -- The events of a burst.
  module _ (j i n : ℕ) (e : List ℕ) (x : Answers S) (h : at s.calls j ≡ some (together i e n))
      (is : b.burst (c.each (kept_at s j) i) e (b.out j) ≡ x)
    where
      abbrev l : List (List ℕ)
      l = came_by x.number x.events x.bytes e

      own_is : s.entries j (kept_at s j) (together i e n) ≡ events_at i n l
      own_is =
          b.together_entries j (kept_at s j) i n e ∙ ap (λ (y : Answers S). events_at i n (came_by y.number y.events y.bytes e)) is

      all : Ran g (c.each (kept_at s j) i) (c.downs (kept_at s j) i) (b.out j) l x
      all = ran (c.each (kept_at s j) i) (c.downs (kept_at s j) i) e (b.out j) x is

      -- Each that is taken came.
      pub calls_there : (m : ℕ) → m < x.events → (v : List ℕ) × (at l m ≡ some v)
      calls_there m t = all.there m t

      module _ (m : ℕ) (v : List ℕ) (q : at l m ≡ some v) where
        own_at : at (s.entries j (kept_at s j) (together i e n)) m ≡ some (event i v n)
        own_at = ap (λ (r : Run). at r m) own_is ∙ at_events i n l m v q

        pub calls_at : at (ran_by s) (place_of s j + m) ≡ some (event i v n)
        calls_at = entry_at s j (together i e n) h m (event i v n) own_at

        pub calls_call : call_of s (place_of s j + m) ≡ j
        calls_call = entry_call s j (together i e n) h m (at_low _ m (event i v n) own_at)

        -- What the server keeps before the m-th of them.
        each_is : c.each (b.keeps (place_of s j + m)) i ≡ kept g (c.each (kept_at s j) i) (b.out j) (take m l)
        each_is =
            ap (λ (k : K). c.each k i)
            (sym (inside s b.entry law b.keeps b.begins b.goes j (together i e n) h (calls_kept j) m (omega (arith, at_low _ m _ own_at)))
            ∙ ap (λ (r : Run). through (b.entry j) (kept_at s j) r) (ap (take m) own_is ∙ take_events i n m l))
            ∙ through_each g c (b.out j) (b.entry j) (b.on_event j) i n (take m l) (kept_at s j)

        pub calls_steps : StepOf x m (g.step (g.source (c.each (b.keeps (place_of s j + m)) i) v) v (b.out j))
        calls_steps = subst (λ (a : A). StepOf x m (g.step (g.source a v) v (b.out j))) (sym each_is) (all.steps m v q)
