-- The registers of daemons that take events by joint bursts, from those of daemons that take each event by the joint step.
use Prim.Native.Nat.{ℕ, suc, ◌+◌, ◌≤◌}
use mathlib.Core.Path.{◌≡◌, sym, ap, ◌∙◌}
use mathlib.Core.List.{List, []}
use mathlib.Core.Option.{some}
use native.Mathlib.Omega.{arith}
use lib.ListN.{length, take, drop}
use Rattle.base.specs.Lists.{at}
use Rattle.replication.specs.Runs.Run.{event, Run, put_out, sent_at}
use Rattle.replication.specs.Runs.Strays.{AllowedWithStraysUp}
use Rattle.replication.specs.Runs.Claim.{stored_green, memory_green, green_at}
use Rattle.daemons.specs.Buffers.{step_in}
use Rattle.daemons.specs.Sending.{cut_records}
use Rattle.daemons.specs.Daemons.{daemons_at}
use Rattle.daemons.specs.Claim.{BuffersFollow, BuffersDemand}
use Rattle.daemons.proofs.SendingLaws.{cut_short_lem}
use Rattle.daemons.proofs.Agreement.{buffers_demand}
use Rattle.burst.specs.Calls.{Call, together, before, last, refused, kept_at, place_of, ran_by}
use Rattle.pegs.specs.Register.{advance}
use Rattle.pegs.specs.Image.{pegs_in, used_in}
use Rattle.register_runs.specs.Joint.{Joint, step_part, unjoined, payloads}
use Rattle.register_runs.specs.Depots.{joint_in, Depots, Lent, LongEnoughAll}
use Rattle.register_runs.specs.Claim.{shown_register, shown_green, FoldIn, DepotsFollow, DepotsAgree}
use Rattle.register_runs.proofs.Depots.{depots_follow, depots_agree}
use Rattle.register_step.specs.Burst.{JointBurst}
use Rattle.register_step.specs.Depots.{burst_in, came_in, LongEnoughForAll, system, by_places, stepwise}
use Rattle.register_step.specs.Claim.{AnswersAs, CallsAgree, JointBurstsAgree}
use Rattle.register_step.proofs.Depots.{steps_call, calls_follow}

module _ (n q : ℕ) (cs : List Call) (x : Lent) (S : AllowedWithStraysUp n q (ran_by (system n q cs x))) (long : LongEnoughForAll n q cs x) where
  abbrev run : Run
  run = ran_by (system n q cs x)

  abbrev place : ℕ → ℕ
  place j = place_of (system n q cs x) j

  same : (j : ℕ) → kept_at (system n q cs x) j ≡ stepwise n q cs x (place j)
  same = (calls_follow n q cs x).kept

  long_enough : LongEnoughAll n q run (by_places n q cs x)
  long_enough = (calls_follow n q cs x).long long

  -- Daemons that take each event by the joint step, over the same run.
  follow : DepotsFollow n q run (by_places n q cs x)
  follow = depots_follow S (by_places n q cs x) long_enough

  agree : DepotsAgree n q run (by_places n q cs x)
  agree = depots_agree S (by_places n q cs x) long_enough

  -- Daemons without registers, over the same run.
  demand : BuffersFollow n q run (by_places n q cs x).states
  unfolding BuffersDemand
  demand = (buffers_demand n q run S (by_places n q cs x).states long_enough.states).0

  -- ---- what is sent

  module _ (j i k m : ℕ) (e v : List ℕ) (y : JointBurst) (h : at cs j ≡ some (together i e k))
      (is : burst_in ((kept_at (system n q cs x) j).depot i) e (x.states.out j) ≡ y) (t : at (came_in y e) m ≡ some v)
    where
      abbrev a : Joint
      a = joint_in ((stepwise n q cs x (place j + m)).depot i) v (x.states.out j)

      there : at run (place j + m) ≡ some (event i v k)
      there = ((calls_follow n q cs x).steps j i k m e v y h is t).0

      answers : AnswersAs y m a
      answers = ((calls_follow n q cs x).steps j i k m e v y h is t).1

      -- The step's answer, with the outgoing buffer of the place.
      answered : step_in ((daemons_at n q run (by_places n q cs x).states (place j + m)).buffers i) v ((by_places n q cs x).states.out (place j + m)) ≡ step_part a
      unfolding by_places
      answered =
          sym (follow.answer (place j + m) i k v there)
          ∙ ap (λ (c : ℕ). step_part (joint_in ((stepwise n q cs x (place j + m)).depot i) v (x.states.out c))) (steps_call n q cs x j i k m e v y h is t)

      sent_last : suc m ≡ y.events → take k (cut_records (take y.sent y.out)) ≡ sent_at n q run (place j + m)
      sent_last l = go answers
        where
          go : AnswersAs y m a → take k (cut_records (take y.sent y.out)) ≡ sent_at n q run (place j + m)
          go (before b c) = absurd (omega arith)
          go (last b c) = demand.sent (place j + m) i k v _ there (answered ∙ c.0)
          go (refused b z c) = absurd (omega arith)

      put_none : a.sent ≡ 0 → put_out n q run (place j + m) ≡ []
      put_none z =
          sym (demand.records (place j + m) i k v (step_part a) there answered)
          ∙ ap (λ (b : ℕ). cut_records (take b a.out)) z
          ∙ cut_short_lem [] (omega arith)

      put_other : (suc m ≡ y.events → ⊥) → put_out n q run (place j + m) ≡ []
      unfolding unjoined
      put_other l = go answers
        where
          go : AnswersAs y m a → put_out n q run (place j + m) ≡ []
          go (before b c) = put_none c.2
          go (last b c) = absurd (l b)
          go (refused b z c) = put_none (ap (λ (u : Joint). u.sent) c)

  calls_agree : CallsAgree n q cs x
  calls_agree = record {
    states = λ j i b. ap (λ (d : Depots). (d.depot i).states) (same j) ∙ follow.states (place j) i b;
    down = λ j i b. ap (λ (d : Depots). d.down i) (same j) ∙ follow.down (place j) i b;
    memory = λ j i b u.
        coe 1 0 (t. FoldIn ((same j t).depot i).states.state ((same j t).depot i).registers.state (memory_green n q run (place j) i))
        (follow.memory (place j) i b (ap (λ (d : Depots). d.down i) (sym (same j)) ∙ u));
    store = λ j i b.
        coe 1 0 (t. FoldIn ((same j t).depot i).states.store ((same j t).depot i).registers.store (stored_green n q run (place j) i))
        (follow.store (place j) i b);
    equal = λ j i k a b.
        coe 1 0
        (t. length (shown_green (same j t) i) ≡ length (shown_green (same j t) k) → used_in (shown_register (same j t) i) ≡ used_in (shown_register (same j t) k))
        (agree.equal (place j) i k a b);
    further = λ j i k a b.
        coe 1 0
        (t. length (shown_green (same j t) i) ≤ length (shown_green (same j t) k) → pegs_in (shown_register (same j t) k)
        ≡ advance (pegs_in (shown_register (same j t) i)) (payloads (drop (length (shown_green (same j t) i)) (green_at n q run (place j) k))))
        (agree.further (place j) i k a b);
    sent = λ j i k m e y h is l.
        let v = (calls_follow n q cs x).taken j i k m e y h is (omega arith) in sent_last j i k m e v.0 y h is v.1 l;
    unsent = λ j i k m e v y h is t l. put_other j i k m e v y h is t l;
  }

pub joint_bursts_agree : JointBurstsAgree
unfolding JointBurstsAgree
joint_bursts_agree n q cs x S long = calls_agree n q cs x S long
