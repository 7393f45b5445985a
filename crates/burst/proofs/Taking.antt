-- A burst of one server, whatever that keeps: the events that came by it, given one after another to the step, leave what the burst leaves, and their
-- steps answer as the burst does.
use Prim.Native.Nat.{ℕ, zero, suc, ◌+◌, ◌<◌}
use mathlib.Core.Path.{◌≡◌, refl, sym, ap, subst, ◌∙◌}
use mathlib.Core.Bool.{Bool, true, false}
use mathlib.Core.List.{List, [], ◌∷◌}
use mathlib.Core.Option.{some}
use native.Mathlib.Omega.{arith}
use native.Mathlib.Decide.{ℕ_discrete}
use lib.ListN.{take, drop}
use Rattle.base.specs.Tests.{◌=?◌, pick}
use Rattle.base.proofs.TestLaws.{pick_either, pick_eq, pick_ne}
use Rattle.base.specs.Lists.{at}
use Rattle.base.proofs.AtLaws.{none_some, some_same}
use Rattle.daemons.specs.Sending.{first_size}
use Rattle.burst.specs.Next.{Event, Stop}
use Rattle.burst.specs.Burst.{next_of}
use Rattle.burst.specs.Calls.{before, last, refused}
use Rattle.burst.proofs.NextLaws.{whole_event, stop_running}
use Rattle.burst.proofs.Came.{came_stop, came_refused, came_ended, came_behind}
use Rattle.burst.proofs.Going.{Answer, Answers, left, stopped, ended, behind, came, StepOf, Server, Goes, stops, refuses, ends, goes}

module _ {S A : Type 0} (g : Server S A) where
  -- The events l one after another: what is kept, and whether the server is down.
  abbrev pub kept : A → (o : List ℕ) → List (List ℕ) → A
  kept a o [] = a
  kept a o (v ∷ l) = let r = g.step (g.source a v) v o in kept (g.keep a r.store r.state) o l

  abbrev pub down : A → Bool → (o : List ℕ) → List (List ℕ) → Bool
  down a u o [] = u
  down a u o (v ∷ l) = let r = g.step (g.source a v) v o in down (g.keep a r.store r.state) (pick (r.number =? 0) false u) o l

  -- What is kept, and the state s from which the slice e is taken: an event that comes next finds s; where none does, s is what is kept.
  pub record Finds (f : Bool) (a : A) (s : S) (e : List ℕ) : Type 0 where
    pub event : (m : ℕ) → next_of f e ≡ Event m → g.source a (take m e) ≡ s
    pub none : (j : ℕ) → next_of f e ≡ Stop j → g.keep a 0 s ≡ a

  finds_first : (a : A) (e : List ℕ) → Finds true a (g.source a (take (first_size e) e)) e
  finds_first a e = record {
    event = λ m h. ap (λ (n : ℕ). g.source a (take n e)) (whole_event true e m h).size;
    none = λ j h. g.kept_same a (take (first_size e) e) (stop_running e j h);
  }

  finds_next : (a : A) (s : S) (e : List ℕ) → Finds false (g.keep a 0 s) s e
  finds_next a s e = record {
    event = λ m h. g.kept_source a 0 s (take m e) ((whole_event false e m h).running refl);
    none = λ j h. g.kept_twice a s s 0;
  }

  -- ---- what the events l leave, and what their steps answer

  pub record Ran (a : A) (u : Bool) (o : List ℕ) (l : List (List ℕ)) (x : Answers S) : Type 0 where
    pub kept_is : kept a o l ≡ g.keep a x.store x.state
    pub down_is : down a u o l ≡ pick (x.events =? 0) u false
    pub there : (m : ℕ) → m < x.events → (v : List ℕ) × (at l m ≡ some v)
    pub steps : (m : ℕ) (v : List ℕ) → at l m ≡ some v → StepOf x m (g.step (g.source (kept a o (take m l)) v) v o)

  ran_none : (a : A) (u : Bool) (s : S) (o : List ℕ) (k : ℕ) → g.keep a 0 s ≡ a → Ran a u o [] (stopped k s o)
  unfolding ◌=?◌ pick at
  ran_none a u s o k h = record { kept_is = sym h; down_is = refl; there = λ m l. absurd (omega arith); steps = λ m v e. none_some e }

  module _ (f : Bool) (s : S) (e o : List ℕ) (m : ℕ) (h : next_of f e ≡ Event m) (a : A) (u : Bool) (n : Finds f a s e) where
    abbrev v : List ℕ
    v = take m e

    -- The step of the event that comes next, by what it finds.
    abbrev r : Answer S
    r = g.step s v o

    abbrev own : Answer S
    own = g.step (g.source a v) v o

    found : own ≡ r
    found = ap (λ (t : S). g.step t v o) (n.event m h)

    found_number : own.number ≡ r.number
    found_number = ap (λ (t : Answer S). t.number) found

    ran_refused : (r.number ≡ 0 → ⊥) → Ran a u o (v ∷ []) (stopped r.number s o)
    unfolding ◌=?◌ pick at
    ran_refused z = record {
      kept_is = ap (λ (t : Answer S). g.keep a t.store t.state) as_left;
      down_is = sym (pick_ne own.number 0 u false u (λ q. z (sym found_number ∙ q)) refl);
      there = λ j l. absurd (omega arith);
      steps = steps;
    }
      where
        as_left : own ≡ left r.number s o
        as_left = found ∙ g.refuses s v o z

        steps : (j : ℕ) (w : List ℕ) → at (v ∷ []) j ≡ some w → StepOf (stopped r.number s o) j (g.step (g.source (kept a o (take j (v ∷ []))) w) w o)
        steps zero w q =
            subst (λ (y : List ℕ). StepOf (stopped r.number s o) 0 (g.step (g.source a y) y o)) (some_same q) (refused refl z as_left)
        steps (suc j) w q = none_some q

    module _ (z : r.number ≡ 0) where
      own_zero : own.number ≡ 0
      own_zero = found_number ∙ z

      as_ending : own ≡ record { number = 0; store = r.store; sent = r.sent; state = r.state; out = r.out }
      as_ending = found ∙ (λ i. record { number = z i; store = r.store; sent = r.sent; state = r.state; out = r.out })

      ran_ended : Ran a u o (v ∷ []) (ended m r)
      unfolding ◌=?◌ pick at
      ran_ended = record {
        kept_is = ap (λ (t : Answer S). g.keep a t.store t.state) found;
        down_is = sym (pick_eq own.number 0 false false u own_zero refl);
        there = there;
        steps = steps;
      }
        where
          there : (j : ℕ) → j < 1 → (w : List ℕ) × (at (v ∷ []) j ≡ some w)
          there zero l = (v, refl)
          there (suc j) l = absurd (omega arith)

          steps : (j : ℕ) (w : List ℕ) → at (v ∷ []) j ≡ some w → StepOf (ended m r) j (g.step (g.source (kept a o (take j (v ∷ []))) w) w o)
          steps zero w q = subst (λ (y : List ℕ). StepOf (ended m r) 0 (g.step (g.source a y) y o)) (some_same q) (last refl as_ending)
          steps (suc j) w q = none_some q

      module _ (store-zero : r.store ≡ 0) (sent-zero : r.sent ≡ 0) (y : Answers S)
          (nothing : y.events ≡ 0 → y ≡ stopped y.number r.state r.out) (l : List (List ℕ))
        where
          out_same : o ≡ r.out
          out_same = sym (g.unsent s v o sent-zero)

          ran_behind : Ran (g.keep a 0 r.state) false r.out l y → Ran a u o (v ∷ l) (behind m y)
          unfolding ◌=?◌ pick at
          ran_behind k = record {
            kept_is = (λ i. kept (kept_own i) (out_same i) l) ∙ k.kept_is ∙ g.kept_twice a r.state y.state y.store;
            down_is =
                (λ i. down (kept_own i) (down_own i) (out_same i) l)
                ∙ k.down_is
                ∙ pick_either (λ (b : Bool). b ≡ false) (y.events =? 0) false false refl refl
                ∙ pick_ne (1 + y.events) 0 false u false (λ q. absurd (omega arith)) refl;
            there = there;
            steps = steps;
          }
            where
              kept_own : g.keep a own.store own.state ≡ g.keep a 0 r.state
              kept_own = ap (λ (b : Answer S). g.keep a b.store b.state) found ∙ ap (λ (w : ℕ). g.keep a w r.state) store-zero

              down_own : pick (own.number =? 0) false u ≡ false
              down_own = sym (pick_eq own.number 0 false false u own_zero refl)

              there : (j : ℕ) → j < 1 + y.events → (w : List ℕ) × (at (v ∷ l) j ≡ some w)
              there zero b = (v, refl)
              there (suc j) b = k.there j (omega arith)

              first : Dec (y.events ≡ 0) → StepOf (behind m y) 0 own
              first (yes q) =
                  let p = nothing q in
                  last (omega (arith, q))
                  (as_ending
                  ∙ (λ i. record {
                    number = 0;
                    store = (store-zero ∙ sym (ap (λ (b : Answers S). b.store) p)) i;
                    sent = (sent-zero ∙ sym (ap (λ (b : Answers S). b.sent) p)) i;
                    state = sym (ap (λ (b : Answers S). b.state) p) i;
                    out = sym (ap (λ (b : Answers S). b.out) p) i;
                  }))
              first (no q) =
                  before (omega arith)
                  (own_zero, ap (λ (b : Answer S). b.store) found ∙ store-zero, ap (λ (b : Answer S). b.sent) found ∙ sent-zero)

              later : (j : ℕ) (b : Answer S) → StepOf y j b → StepOf (behind m y) (suc j) b
              later j b (before q c) = before (omega arith) c
              later j b (last q c) = last (omega arith) c
              later j b (refused q d c) = refused (omega arith) d c

              steps : (j : ℕ) (w : List ℕ) → at (v ∷ l) j ≡ some w → StepOf (behind m y) j (g.step (g.source (kept a o (take j (v ∷ l))) w) w o)
              steps zero w q =
                  subst (λ (c : List ℕ). StepOf (behind m y) 0 (g.step (g.source a c) c o)) (some_same q) (first (ℕ_discrete y.events 0))
              steps (suc j) w q =
                  later j _ (coe 1 0 (i. StepOf y j (g.step (g.source (kept (kept_own i) (out_same i) (take j l)) w) w (out_same i))) (k.steps j w q))

  -- A burst that took nothing.
  nothing_taken : {f : Bool} {s : S} {e o : List ℕ} {x : Answers S} → Goes g f s e o x → x.events ≡ 0 → x ≡ stopped x.number s o
  nothing_taken {f} {s} {e} {o} {x} (stops k j h q) n = q ∙ ap (λ (i : ℕ). stopped i s o) (sym (ap (λ (y : Answers S). y.number) q))
  nothing_taken {f} {s} {e} {o} {x} (refuses m h z q) n = q ∙ ap (λ (i : ℕ). stopped i s o) (sym (ap (λ (y : Answers S). y.number) q))
  nothing_taken {f} {s} {e} {o} {x} (ends m h z q) n = absurd (omega (arith, n, ap (λ (y : Answers S). y.events) q))
  nothing_taken {f} {s} {e} {o} {x} (goes m h t y d q) n = absurd (omega (arith, n, ap (λ (y : Answers S). y.events) q))

  goes_ran : {f : Bool} {s : S} {e o : List ℕ} {x : Answers S} → Goes g f s e o x → (a : A) (u : Bool) → Finds f a s e → Ran a u o (came f x e) x
  goes_ran {f} {s} {e} {o} {x} (stops k j h q) a u n =
      subst (λ (y : Answers S). Ran a u o (came f y e) y) (sym q)
      (subst (λ (l : List (List ℕ)). Ran a u o l (stopped k s o)) (sym (came_stop f e k j h)) (ran_none a u s o k (n.none j h)))
  goes_ran {f} {s} {e} {o} {x} (refuses m h z q) a u n =
      subst (λ (y : Answers S). Ran a u o (came f y e) y) (sym q)
      (subst (λ (l : List (List ℕ)). Ran a u o l (stopped (g.step s (take m e) o).number s o)) (sym (came_refused f e _ m h z))
      (ran_refused f s e o m h a u n z))
  goes_ran {f} {s} {e} {o} {x} (ends m h z q) a u n =
      subst (λ (y : Answers S). Ran a u o (came f y e) y) (sym q)
      (subst (λ (l : List (List ℕ)). Ran a u o l (ended m (g.step s (take m e) o))) (sym (came_ended f e m (whole_event f e m h)))
      (ran_ended f s e o m h a u n z))
  goes_ran {f} {s} {e} {o} {x} (goes m h t y d q) a u n =
      subst (λ (y : Answers S). Ran a u o (came f y e) y) (sym q)
      (subst (λ (l : List (List ℕ)). Ran a u o l (behind m y)) (sym (came_behind f e m (whole_event f e m h) y.number y.events y.bytes))
      (ran_behind f s e o m h a u n t.0 t.1 t.2 y (nothing_taken d) (came false y (drop m e))
      (goes_ran d (g.keep a 0 (g.step s (take m e) o).state) false (finds_next a (g.step s (take m e) o).state (drop m e)))))

  -- From the state that the slice's first event finds.
  pub burst_ran : (a : A) (u : Bool) (e o : List ℕ) (x : Answers S) → Goes g true (g.source a (take (first_size e) e)) e o x → Ran a u o (came true x e) x
  burst_ran a u e o x d = goes_ran d a u (finds_first a e)
