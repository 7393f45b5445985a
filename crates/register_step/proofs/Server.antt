-- One server with a register: its joint step and its joint burst, as bursts over states of any type.
use Prim.Native.Nat.{ℕ, suc}
use mathlib.Core.Path.{◌≡◌, refl, sym, ap, subst}
use mathlib.Core.Bool.{Bool, true, false}
use mathlib.Core.List.{List}
use native.Mathlib.Omega.{arith}
use lib.ListN.{length, take, drop}
use Rattle.base.specs.Bytes.{joined}
use Rattle.base.specs.Tests.{◌=?◌, pick}
use Rattle.base.proofs.TestLaws.{pick_yes, pick_no, pick_either, pick_as, pick_eq, pick_ne, eq_holds, eq_fails, choices, Known, holds, fails, known}
use Rattle.replication.specs.Machine.Types.{Server as State, Outcome, refused, taken}
use Rattle.replication.specs.Machine.Step.{step}
use Rattle.image.specs.Decode.{decoded}
use Rattle.image.specs.Outcome.{image_after}
use Rattle.daemons.specs.Buffers.{source_in}
use Rattle.daemons.proofs.BufferLaws.{source_running}
use Rattle.burst.specs.Next.{Event, Stop}
use Rattle.burst.specs.Burst as engine
use Rattle.burst.specs.Burst.{next_of}
use Rattle.burst.proofs.KeptLaws.{over_none}
use Rattle.burst.proofs.BurstLaws as steps
use Rattle.burst.proofs.BurstLaws.{by_stop, by_event}
use Rattle.burst.proofs.Going as going
use Rattle.burst.proofs.Going.{Answer, Answers, Server, Goes, unready_goes, After, from_goes}
use Rattle.register_runs.specs.Joint.{Joint, step_part, unjoined, joint_of, joint_number, joint_on}
use Rattle.register_runs.specs.Depots.{Depot}
use Rattle.register_step.specs.Burst.{JointBurst, stopped, ended, behind, silent, after_joint, burst_from, burst_all, joint_burst_on}
use Rattle.register_step.specs.Depots.{depot_after_burst}

-- The state's buffer and the register's.
pub record Both : Type 0 where
  pub state : List ℕ
  pub register : List ℕ

-- ---- one server

abbrev pub answer_of : Joint → Answer Both
answer_of a = record { number = a.number; store = a.store; sent = a.sent; state = record { state = a.state; register = a.register }; out = a.out }

abbrev pub answers_of : JointBurst → Answers Both
answers_of x = record {
  number = x.number;
  events = x.events;
  bytes = x.bytes;
  store = x.store;
  sent = x.sent;
  state = record { state = x.state; register = x.register };
  out = x.out;
}

module _ (b r e o : List ℕ) where
  abbrev left : State → List ℕ → List ℕ
  left = image_after (decoded b) e

  by_number : (P : Joint → Type 0) → ((x : Outcome (List ℕ)) → P (joint_of left x b r o)) → ((k : ℕ) → P (unjoined k b r o)) → P (joint_on b r e o)
  unfolding joint_on
  by_number P f g = pick_either P (joint_number b r o =? 0) _ _ (f (step (decoded b) e)) (g (joint_number b r o))

  pub joint_left : ((joint_on b r e o).number ≡ 0 → ⊥) → joint_on b r e o ≡ unjoined (joint_on b r e o).number b r o
  unfolding joint_of unjoined
  joint_left = by_number (λ (a : Joint). (a.number ≡ 0 → ⊥) → a ≡ unjoined a.number b r o) go (λ k n. refl)
    where
      go : (x : Outcome (List ℕ)) → ((joint_of left x b r o).number ≡ 0 → ⊥) → joint_of left x b r o ≡ unjoined (joint_of left x b r o).number b r o
      go (refused k) n = refl
      go (taken t rs w g) n = absurd (n refl)

  -- A refused event turns nothing green.
  pub joint_counts : ((joint_on b r e o).number ≡ 0 → ⊥) → ((joint_on b r e o).greened ≡ 0) × ((joint_on b r e o).refused ≡ 0)
  unfolding unjoined
  joint_counts n = let h = joint_left n in (ap (λ (a : Joint). a.greened) h, ap (λ (a : Joint). a.refused) h)

  pub joint_unsent : (joint_on b r e o).sent ≡ 0 → (joint_on b r e o).out ≡ o
  unfolding joint_of unjoined
  joint_unsent = by_number (λ (a : Joint). a.sent ≡ 0 → a.out ≡ o) go (λ k n. refl)
    where
      go : (x : Outcome (List ℕ)) → (joint_of left x b r o).sent ≡ 0 → (joint_of left x b r o).out ≡ o
      go (refused k) n = refl
      go (taken t rs w g) n = over_none (joined rs) o n

  joint_refused : (joint_number b r o ≡ 0 → ⊥) → (joint_on b r e o).number ≡ joint_number b r o
  unfolding joint_on unjoined
  joint_refused n = ap (λ (a : Joint). a.number) (sym (pick_ne (joint_number b r o) 0 (unjoined (joint_number b r o) b r o) _ _ n refl))

-- What is left behind a step or a burst with this store word.
abbrev pub keep : Depot → ℕ → Both → Depot
keep d w s = record {
  states = record { state = s.state; store = pick (w =? 1) s.state d.states.store };
  registers = record { state = s.register; store = pick (w =? 1) s.register d.registers.store };
}

module _ (d : Depot) (x : JointBurst) where
  burst_state_stored : x.store ≡ 1 → x.state ≡ (depot_after_burst d x).states.store
  unfolding depot_after_burst
  burst_state_stored h = search choices

  burst_register_stored : x.store ≡ 1 → x.register ≡ (depot_after_burst d x).registers.store
  unfolding depot_after_burst
  burst_register_stored h = search choices

  burst_unstored : (x.store ≡ 1 → ⊥)
      → (d.states.store ≡ (depot_after_burst d x).states.store) × (d.registers.store ≡ (depot_after_burst d x).registers.store)
  unfolding depot_after_burst
  burst_unstored h = (search choices, search choices)

  burst_lent : (x.state ≡ (depot_after_burst d x).states.state) × (x.register ≡ (depot_after_burst d x).registers.state)
  unfolding depot_after_burst
  burst_lent = (refl, refl)

  -- A burst leaves what a step leaves with its store word, its state and its register.
  pub burst_keeps : depot_after_burst d x ≡ keep d x.store (record { state = x.state; register = x.register })
  burst_keeps = λ i. record {
    states = record { state = sym burst_lent.0 i; store = states i };
    registers = record { state = sym burst_lent.1 i; store = registers i };
  }
    where
      states : (depot_after_burst d x).states.store ≡ pick (x.store =? 1) x.state d.states.store
      states =
          pick_as (λ (s : List ℕ). (depot_after_burst d x).states.store ≡ s) (x.store =? 1) x.state d.states.store
          (λ h. sym (burst_state_stored (eq_holds x.store 1 h))) (λ h. sym (burst_unstored (eq_fails x.store 1 h)).0)

      registers : (depot_after_burst d x).registers.store ≡ pick (x.store =? 1) x.register d.registers.store
      registers =
          pick_as (λ (s : List ℕ). (depot_after_burst d x).registers.store ≡ s) (x.store =? 1) x.register d.registers.store
          (λ h. sym (burst_register_stored (eq_holds x.store 1 h))) (λ h. sym (burst_unstored (eq_fails x.store 1 h)).1)

unfoldable pub server : Server Both Depot
unfolding source_in unjoined pick ◌=?◌
server = record {
  step = λ s e o. answer_of (joint_on s.state s.register e o);
  source = λ d e. record { state = source_in d.states e; register = source_in d.registers e };
  keep = keep;
  refuses = λ s e o n. ap answer_of (joint_left s.state s.register e o n);
  unsent = λ s e o n. joint_unsent s.state s.register e o n;
  kept_source = λ d w s e h. λ i. record {
    state = sym (source_running (keep d w s).states e h) i;
    register = sym (source_running (keep d w s).registers e h) i;
  };
  kept_twice = λ d s t w. refl;
  kept_same = λ d e h. λ i. record {
    states = record { state = sym (source_running d.states e h) i; store = d.states.store };
    registers = record { state = sym (source_running d.registers e h) i; store = d.registers.store };
  };
}

-- ---- the burst, one event after another

-- A step that a burst goes on behind has stored and put out nothing.
silent_nothing : (a : Joint) → silent a ≡ true → (a.store ≡ 0) × (a.sent ≡ 0)
unfolding silent engine.silent
silent_nothing a t = steps.silent_nothing (step_part a) t

module _ (d : ℕ) (f : Bool) (s : Both) (e o : List ℕ) where
  abbrev from : ℕ → Bool → Both → (e o : List ℕ) → JointBurst
  from d f s e o = burst_from d f s.state s.register e o

  on_stop : (k : ℕ) → next_of f e ≡ Stop k → answers_of (from (suc d) f s e o) ≡ going.stopped k s o
  unfolding burst_from stopped
  on_stop k q = ap answers_of (by_stop (next_of f e) k _ _ q)

  module _ (m : ℕ) (q : next_of f e ≡ Event m) where
    abbrev a : Joint
    a = joint_on s.state s.register (take m e) o

    abbrev rest : JointBurst
    rest = burst_from d false a.state a.register (drop m e) a.out

    from_event : from (suc d) f s e o ≡ after_joint s.state s.register o m a rest
    unfolding burst_from
    from_event = by_event (next_of f e) m _ _ q

    on_event : After server s o m (answer_of a) (answers_of rest) (answers_of (from (suc d) f s e o))
    unfolding after_joint stopped ended behind
    on_event =
        subst (λ (x : JointBurst). After server s o m (answer_of a) (answers_of rest) (answers_of x)) (sym from_event)
        (go (known (a.number =? 0)) (known (silent a)))
      where
        x : JointBurst
        x = after_joint s.state s.register o m a rest

        go : Known (a.number =? 0) → Known (silent a) → After server s o m (answer_of a) (answers_of rest) (answers_of x)
        go (fails n) t =
            let z = eq_fails a.number 0 n in going.refused z (ap answers_of (sym (pick_ne a.number 0 _ _ _ z refl)))
        go (holds n) (fails t) =
            let z = eq_holds a.number 0 n in
            going.last z (ap answers_of (sym (pick_eq a.number 0 (ended m a) _ _ z (pick_no (silent a) _ _ _ t refl))))
        go (holds n) (holds t) =
            let z = eq_holds a.number 0 n in
            let w = silent_nothing a t in
            going.more (z, w.0, w.1) (ap answers_of (sym (pick_eq a.number 0 (behind m a rest) _ _ z (pick_yes (silent a) _ _ _ t refl))))

pub burst_goes : (s : Both) (e o : List ℕ) → Goes server true s e o (answers_of (joint_burst_on s.state s.register e o))
unfolding server joint_burst_on burst_all stopped
burst_goes s e o =
    let k : ℕ = joint_number s.state s.register o in
    pick_as (λ (x : JointBurst). Goes server true s e o (answers_of x)) (k =? 0) _ _
    (λ z. from_goes server (λ d f t v u. answers_of (burst_from d f t.state t.register v u)) on_stop on_event (suc (length e)) true s e o (omega arith))
    (λ z. let n = eq_fails k 0 z in unready_goes server s e o k n (λ v. joint_refused s.state s.register v o n))
