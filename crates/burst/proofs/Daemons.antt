-- Daemons that take events by bursts keep what daemons keep that take each by the step.
use Prim.Native.Nat.{ℕ, suc, ◌+◌, ◌<◌}
use mathlib.Core.Path.{◌≡◌, refl, sym, ap, subst}
use mathlib.Core.Bool.{Bool, true, false}
use mathlib.Core.List.{List}
use mathlib.Core.Option.{some}
use native.Mathlib.Omega.{arith}
use lib.ListN.{length, take, drop}
use Rattle.base.specs.Tests.{◌=?◌, pick}
use Rattle.base.proofs.TestLaws.{pick_as, eq_holds, eq_fails, choices, Known, holds, fails, known}
use Rattle.base.specs.Lists.{at, upd}
use Rattle.replication.specs.Runs.Run.{Entry, event, crash, Run}
use Rattle.image.specs.Outcome.{Result, refusal, step_on, state_number}
use Rattle.image.proofs.Refusals.{step_refused}
use Rattle.daemons.specs.Buffers.{Buffers, source_in, step_in, kept_after}
use Rattle.daemons.specs.Sending.{first_size}
use Rattle.daemons.specs.Daemons.{Daemons, Lending, LongEnough, daemons_after, daemons_at}
use Rattle.daemons.proofs.BufferLaws.{source_running}
use Rattle.burst.specs.Next.{Event, Stop}
use Rattle.burst.specs.Burst.{next_of, Burst, stopped, ended, behind, silent, after_step, burst_from, burst_all, burst_on}
use Rattle.burst.specs.Calls.{Call, together, before, last, refused, System, kept_at, place_of, ran_by, call_of}
use Rattle.burst.specs.Daemons.{burst_in, kept_after_burst, came_in, called_after, entries_of, burst_daemons, LongEnoughFor, by_places}
use Rattle.burst.specs.Claim.{AnswersAs, CallsFollow, BurstsFollow}
use Rattle.burst.proofs.KeptLaws.{step_left, step_unsent}
use Rattle.burst.proofs.BurstLaws.{from_stop, from_event, after_refused, after_ended, after_silent, silent_nothing}
use Rattle.burst.proofs.Going as going
use Rattle.burst.proofs.Going.{Answer, Answers, Server, Goes, unready_goes, After, from_goes}
use Rattle.burst.proofs.Places.{call_of_lem}
use Rattle.burst.proofs.Serving.{crash_no_event, Servers, Behaves, calls_kept, calls_alone, calls_there, calls_at, calls_call, calls_steps}

-- ---- one server

abbrev answer_of : Result → Answer (List ℕ)
answer_of r = record { number = r.number; store = r.store; sent = r.sent; state = r.state; out = r.out }

abbrev answers_of : Burst → Answers (List ℕ)
answers_of x = record { number = x.number; events = x.events; bytes = x.bytes; store = x.store; sent = x.sent; state = x.state; out = x.out }

abbrev back : Answer (List ℕ) → Result
back a = record { number = a.number; store = a.store; sent = a.sent; state = a.state; out = a.out }

-- What is left behind a step or a burst with this store word.
abbrev keep : Buffers → ℕ → List ℕ → Buffers
keep b w s = record { state = s; store = pick (w =? 1) s b.store }

module _ (b : Buffers) (x : Burst) where
  burst_stored : x.store ≡ 1 → x.state ≡ (kept_after_burst b x).store
  unfolding kept_after_burst
  burst_stored h = search choices

  burst_unstored : (x.store ≡ 1 → ⊥) → b.store ≡ (kept_after_burst b x).store
  unfolding kept_after_burst
  burst_unstored h = search choices

  burst_state : x.state ≡ (kept_after_burst b x).state
  unfolding kept_after_burst
  burst_state = refl

  -- A burst leaves what a step leaves with its store word and its state.
  burst_keeps : kept_after_burst b x ≡ keep b x.store x.state
  burst_keeps = λ i. record { state = sym burst_state i; store = store i }
    where
      store : (kept_after_burst b x).store ≡ pick (x.store =? 1) x.state b.store
      store =
          pick_as (λ (s : List ℕ). (kept_after_burst b x).store ≡ s) (x.store =? 1) x.state b.store
          (λ h. sym (burst_stored (eq_holds x.store 1 h))) (λ h. sym (burst_unstored (eq_fails x.store 1 h)))

server : Server (List ℕ) Buffers
unfolding source_in refusal pick ◌=?◌
server = record {
  step = λ s e o. answer_of (step_on s e o);
  source = source_in;
  keep = keep;
  refuses = λ s e o n. ap answer_of (step_left s e o n);
  unsent = step_unsent;
  kept_source = λ b w s e h. sym (source_running (keep b w s) e h);
  kept_twice = λ b s t w. refl;
  kept_same = λ b e h. λ i. record { state = sym (source_running b e h) i; store = b.store };
}

-- ---- the burst, one event after another

module _ (d : ℕ) (f : Bool) (b e o : List ℕ) (m : ℕ) (q : next_of f e ≡ Event m) where
  abbrev r : Result
  r = step_on b (take m e) o

  abbrev rest : Burst
  rest = burst_from d false r.state (drop m e) r.out

  on_event : After server b o m (answer_of r) (answers_of rest) (answers_of (burst_from (suc d) f b e o))
  unfolding stopped ended behind
  on_event =
      subst (λ (x : Burst). After server b o m (answer_of r) (answers_of rest) (answers_of x)) (sym (from_event d f b e o m q))
      (go (known (r.number =? 0)) (known (silent r)))
    where
      go : Known (r.number =? 0) → Known (silent r) → After server b o m (answer_of r) (answers_of rest) (answers_of (after_step b o m r rest))
      go (fails n) t = let z = eq_fails r.number 0 n in going.refused z (ap answers_of (after_refused b o m r rest z))
      go (holds n) (fails t) = let z = eq_holds r.number 0 n in going.last z (ap answers_of (after_ended b o m r rest z t))
      go (holds n) (holds t) =
          let z = eq_holds r.number 0 n in
          let w = silent_nothing r t in
          going.more (z, w.0, w.1) (ap answers_of (after_silent b o m r rest z t))

on_stop : (d : ℕ) (f : Bool) (b e o : List ℕ) (k : ℕ) → next_of f e ≡ Stop k → answers_of (burst_from (suc d) f b e o) ≡ going.stopped k b o
unfolding stopped
on_stop d f b e o k q = ap answers_of (from_stop d f b e o k q)

burst_goes : (b e o : List ℕ) → Goes server true b e o (answers_of (burst_on b e o))
unfolding server burst_on burst_all stopped refusal
burst_goes b e o =
    pick_as (λ (x : Burst). Goes server true b e o (answers_of x)) (state_number b o =? 0) _ _
    (λ z. from_goes server (λ d f s v u. answers_of (burst_from d f s v u)) on_stop on_event (suc (length e)) true b e o (omega arith))
    (λ z. let n = eq_fails (state_number b o) 0 z in
    unready_goes server b e o (state_number b o) n (λ v. ap (λ (x : Result). x.number) (step_refused b v o n)))

answers_as : (y : Burst) (m : ℕ) (r : Result) → going.StepOf (answers_of y) m (answer_of r) → AnswersAs y m r
unfolding refusal
answers_as y m r (before h t) = before h t
answers_as y m r (last h t) = last h (ap back t)
answers_as y m r (refused h z t) = refused h z (ap back t)

-- ---- all servers

servers : Servers Buffers Daemons
servers = record {
  make = λ f u. record { buffers = f; down = u };
  each = λ d. d.buffers;
  downs = λ d. d.down;
  make_same = λ d. refl;
  made_each = λ f u. refl;
  made_downs = λ f u. refl;
}

module _ (n q : ℕ) (cs : List Call) (x : Lending) where
  abbrev system : System Daemons
  system = burst_daemons n q cs x

  abbrev run : Run
  run = ran_by system

  abbrev entry : ℕ → Daemons → Entry → Daemons
  entry j d y = daemons_after d (x.out j) (x.crashed j) (some y)

  abbrev stepwise : ℕ → Daemons
  stepwise p = daemons_at n q run (by_places n q cs x) p

  stepwise_next : (p : ℕ) (y : Entry) → at run p ≡ some y → stepwise (suc p) ≡ entry (call_of system p) (stepwise p) y
  unfolding daemons_at by_places
  stepwise_next p y h = ap (daemons_after (stepwise p) (x.out (call_of system p)) (x.crashed (call_of system p))) h

  behaves : Behaves server servers system
  unfolding server servers burst_daemons daemons_at daemons_after kept_after step_in called_after entries_of came_in burst_in by_places
  behaves = record {
    out = x.out;
    entry = entry;
    burst = λ b e o. answers_of (burst_in b e o);
    on_event = λ j d i k v. refl;
    burst_goes = λ b e o. burst_goes (source_in b (take (first_size e) e)) e o;
    alone_after = λ j d y. refl;
    alone_entries = λ j d y. refl;
    together_after = λ j d i k e.
        let y : Burst = burst_in (d.buffers i) e (x.out j) in
        λ t. record { buffers = upd d.buffers i (burst_keeps (d.buffers i) y t); down = upd d.down i (pick (y.events =? 0) (d.down i) false) };
    together_entries = λ j d i k e. refl;
    keeps = stepwise;
    begins = refl;
    goes = stepwise_next;
  }

  -- ---- the claim

  steps_there : (j i k m : ℕ) (e : List ℕ) (y : Burst) → at cs j ≡ some (together i e k) → burst_in ((kept_at system j).buffers i) e (x.out j) ≡ y
      → m < y.events → (v : List ℕ) × (at (came_in y e) m ≡ some v)
  unfolding behaves
  steps_there j i k m e y h is l = calls_there server servers system behaves j i k e (answers_of y) h (ap answers_of is) m l

  module _ (j i k m : ℕ) (e v : List ℕ) (y : Burst) (h : at cs j ≡ some (together i e k)) (is : burst_in ((kept_at system j).buffers i) e (x.out j) ≡ y)
      (t : at (came_in y e) m ≡ some v)
    where
      steps_at : at run (place_of system j + m) ≡ some (event i v k)
      unfolding behaves
      steps_at = calls_at server servers system behaves j i k e (answers_of y) h (ap answers_of is) m v t

      pub steps_call : call_of system (place_of system j + m) ≡ j
      unfolding behaves
      steps_call = calls_call server servers system behaves j i k e (answers_of y) h (ap answers_of is) m v t

      steps_as : AnswersAs y m (step_in ((stepwise (place_of system j + m)).buffers i) v (x.out j))
      unfolding behaves
      steps_as =
          answers_as y m (step_in ((stepwise (place_of system j + m)).buffers i) v (x.out j))
          (calls_steps server servers system behaves j i k e (answers_of y) h (ap answers_of is) m v t)

  long_by_places : LongEnoughFor n q cs x → LongEnough n q run (by_places n q cs x)
  unfolding behaves
  long_by_places l = record {
    first = l.first;
    out = λ p. l.out (call_of system p);
    crashed = λ p i h. l.crashed (call_of system p) i (calls_alone server servers system behaves p (crash i) h (λ j k v e. crash_no_event i j k v e));
  }

  pub calls_follow : CallsFollow n q cs x
  unfolding behaves
  calls_follow = record {
    kept = calls_kept server servers system behaves;
    call = call_of_lem system;
    taken = steps_there;
    steps = λ j i k m e v y h is t. (steps_at j i k m e v y h is t, steps_as j i k m e v y h is t);
    long = long_by_places;
  }

pub bursts_follow : BurstsFollow
unfolding BurstsFollow
bursts_follow n q cs x = calls_follow n q cs x
