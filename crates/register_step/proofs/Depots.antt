-- Daemons that keep registers and take events by joint bursts keep what daemons keep that take each by the joint step.
use Prim.Native.Nat.{ℕ, suc, ◌+◌, ◌<◌}
use mathlib.Core.Path.{◌≡◌, refl, sym, ap, ◌∙◌}
use mathlib.Core.Bool.{false}
use mathlib.Core.List.{List}
use mathlib.Core.Option.{some}
use lib.ListN.{take}
use Rattle.base.specs.Tests.{◌=?◌, pick}
use Rattle.base.specs.Lists.{at, upd}
use Rattle.replication.specs.Runs.Run.{Entry, event, crash, Run}
use Rattle.daemons.specs.Buffers.{source_in}
use Rattle.daemons.specs.Sending.{first_size}
use Rattle.burst.specs.Calls.{Call, together, before, last, refused, System, kept_at, place_of, ran_by, call_of}
use Rattle.burst.proofs.Going.{Answer, StepOf}
use Rattle.burst.proofs.Places.{call_of_lem}
use Rattle.burst.proofs.Serving.{crash_no_event, Servers, Behaves, calls_kept, calls_alone, calls_there, calls_at, calls_call, calls_steps}
use Rattle.register_runs.specs.Joint.{Joint, unjoined}
use Rattle.register_runs.specs.Depots.{Depot, joint_in, depot_after, Depots, Lent, LongEnoughAll, depots_after, depots_at}
use Rattle.register_step.specs.Burst.{JointBurst}
use Rattle.register_step.specs.Depots.{burst_in, came_in, called_after, entries_of, burst_depots, LongEnoughForAll, by_places}
use Rattle.register_step.specs.Claim.{AnswersAs, CallsFollow, JointBurstsFollow}
use Rattle.register_step.proofs.Server.{Both, answer_of, answers_of, joint_counts, burst_keeps, server, burst_goes}

answers_as : (y : JointBurst) (m : ℕ) (a : Joint) → ((a.number ≡ 0 → ⊥) → (a.greened ≡ 0) × (a.refused ≡ 0)) → StepOf (answers_of y) m (answer_of a)
    → AnswersAs y m a
unfolding unjoined
answers_as y m a c (before h t) = before h t
answers_as y m a c (last h t) =
    last h (
      ap (λ (b : Answer Both). record { number = b.number; store = b.store; sent = b.sent; state = b.state.state; out = b.out }) t,
      ap (λ (b : Answer Both). b.state.register) t,
    )
answers_as y m a c (refused h z t) =
    let g = c (λ q. z (sym (ap (λ (b : Answer Both). b.number) t) ∙ q)) in
    refused h z
    (λ i. record {
      number = (t i).number;
      store = (t i).store;
      sent = (t i).sent;
      greened = g.0 i;
      refused = g.1 i;
      state = (t i).state.state;
      register = (t i).state.register;
      out = (t i).out;
    })

-- ---- all servers

servers : Servers Depot Depots
servers = record {
  make = λ f u. record { depot = f; down = u };
  each = λ d. d.depot;
  downs = λ d. d.down;
  make_same = λ d. refl;
  made_each = λ f u. refl;
  made_downs = λ f u. refl;
}

module _ (n q : ℕ) (cs : List Call) (x : Lent) where
  abbrev system : System Depots
  system = burst_depots n q cs x

  abbrev run : Run
  run = ran_by system

  abbrev entry : ℕ → Depots → Entry → Depots
  entry j d y = depots_after d (x.states.out j) (x.states.crashed j) (x.crashed j) (some y)

  abbrev stepwise : ℕ → Depots
  stepwise p = depots_at n q run (by_places n q cs x) p

  stepwise_next : (p : ℕ) (y : Entry) → at run p ≡ some y → stepwise (suc p) ≡ entry (call_of system p) (stepwise p) y
  unfolding depots_at by_places
  stepwise_next p y h =
      ap (depots_after (stepwise p) (x.states.out (call_of system p)) (x.states.crashed (call_of system p)) (x.crashed (call_of system p))) h

  behaves : Behaves server servers system
  unfolding server servers burst_depots depots_at depots_after depot_after joint_in called_after entries_of came_in burst_in by_places
  behaves = record {
    out = x.states.out;
    entry = entry;
    burst = λ d e o. answers_of (burst_in d e o);
    on_event = λ j d i k v. refl;
    burst_goes = λ d e o.
        burst_goes (record { state = source_in d.states (take (first_size e) e); register = source_in d.registers (take (first_size e) e) }) e o;
    alone_after = λ j d y. refl;
    alone_entries = λ j d y. refl;
    together_after = λ j d i k e.
        let y : JointBurst = burst_in (d.depot i) e (x.states.out j) in
        λ t. record { depot = upd d.depot i (burst_keeps (d.depot i) y t); down = upd d.down i (pick (y.events =? 0) (d.down i) false) };
    together_entries = λ j d i k e. refl;
    keeps = stepwise;
    begins = refl;
    goes = stepwise_next;
  }

  -- ---- the claim

  steps_there : (j i k m : ℕ) (e : List ℕ) (y : JointBurst) → at cs j ≡ some (together i e k)
      → burst_in ((kept_at system j).depot i) e (x.states.out j) ≡ y → m < y.events → (v : List ℕ) × (at (came_in y e) m ≡ some v)
  unfolding behaves
  steps_there j i k m e y h is l = calls_there server servers system behaves j i k e (answers_of y) h (ap answers_of is) m l

  module _ (j i k m : ℕ) (e v : List ℕ) (y : JointBurst) (h : at cs j ≡ some (together i e k))
      (is : burst_in ((kept_at system j).depot i) e (x.states.out j) ≡ y) (t : at (came_in y e) m ≡ some v)
    where
      steps_at : at run (place_of system j + m) ≡ some (event i v k)
      unfolding behaves
      steps_at = calls_at server servers system behaves j i k e (answers_of y) h (ap answers_of is) m v t

      pub steps_call : call_of system (place_of system j + m) ≡ j
      unfolding behaves
      steps_call = calls_call server servers system behaves j i k e (answers_of y) h (ap answers_of is) m v t

      steps_as : AnswersAs y m (joint_in ((stepwise (place_of system j + m)).depot i) v (x.states.out j))
      unfolding behaves
      steps_as =
          answers_as y m (joint_in ((stepwise (place_of system j + m)).depot i) v (x.states.out j)) (λ z. joint_counts _ _ v (x.states.out j) z)
          (calls_steps server servers system behaves j i k e (answers_of y) h (ap answers_of is) m v t)

  long_by_places : LongEnoughForAll n q cs x → LongEnoughAll n q run (by_places n q cs x)
  unfolding behaves
  long_by_places l = record {
    states = record {
      first = l.states.first;
      out = λ p. l.states.out (call_of system p);
      crashed = λ p i h.
          l.states.crashed (call_of system p) i (calls_alone server servers system behaves p (crash i) h (λ j k v e. crash_no_event i j k v e));
    };
    registers = l.registers;
  }

  pub calls_follow : CallsFollow n q cs x
  unfolding behaves
  calls_follow = record {
    kept = calls_kept server servers system behaves;
    call = call_of_lem system;
    taken = steps_there;
    steps = λ j i k m e v y h is t. (steps_at j i k m e v y h is t, steps_as j i k m e v y h is t);
    long = long_by_places;
  }

pub joint_bursts_follow : JointBurstsFollow
unfolding JointBurstsFollow
joint_bursts_follow n q cs x = calls_follow n q cs x
