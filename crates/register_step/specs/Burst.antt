-- Events one behind another in one slice, each by the joint step: what a burst with a register answers.
use Rattle.std.specs.Prelude.{ℕ, zero, suc, ◌+◌, ◌^◌, ◌<◌, ◌≡◌, Bool, true, false, not, List, length, take, drop}
use Rattle.base.specs.Tests.{◌and◌, ◌or◌, ◌=?◌, pick}
use Rattle.base.specs.Lent.{Lent}
use Rattle.burst.specs.Burst.{next_of, by_next}
use Rattle.register_runs.specs.Joint.{Joint, joint_number, joint_on}
use Rattle.register_step.specs.declared.RegisterBurst.{RegisterBurst}

-- As a burst's, and how many actions all its events turned green, and how many operations of these were refused.
pub record JointBurst : Type 0 where
  pub number : ℕ
  pub events : ℕ
  pub bytes : ℕ
  pub store : ℕ
  pub sent : ℕ
  pub greened : ℕ
  pub refused : ℕ
  pub state : List ℕ
  pub register : List ℕ
  pub out : List ℕ

-- Nothing is taken.
unfoldable pub stopped : (number : ℕ) → (state register out : List ℕ) → JointBurst
stopped k b r o = record {
  number = k;
  events = 0;
  bytes = 0;
  store = 0;
  sent = 0;
  greened = 0;
  refused = 0;
  state = b;
  register = r;
  out = o;
}

-- The event of m bytes with the answer x is taken, and is the last.
unfoldable pub ended : (m : ℕ) → Joint → JointBurst
ended m x = record {
  number = 0;
  events = 1;
  bytes = m;
  store = x.store;
  sent = x.sent;
  greened = x.greened;
  refused = x.refused;
  state = x.state;
  register = x.register;
  out = x.out;
}

-- y, behind the event of m bytes with the answer x, which has stored and put out nothing.
unfoldable pub behind : (m : ℕ) → Joint → JointBurst → JointBurst
behind m x y = record {
  number = y.number;
  events = 1 + y.events;
  bytes = m + y.bytes;
  store = y.store;
  sent = y.sent;
  greened = x.greened + y.greened;
  refused = x.refused + y.refused;
  state = y.state;
  register = y.register;
  out = y.out;
}

-- It has stored and put out nothing.
unfoldable pub silent : Joint → Bool
silent x = x.store =? 0 and x.sent =? 0

-- An event of m bytes with the answer x, over the buffers b, r and o, and `rest` behind it: a burst ends where a burst of steps does.
unfoldable pub after_joint : (b r o : List ℕ) → (m : ℕ) → Joint → (rest : JointBurst) → JointBurst
after_joint b r o m x rest = pick (x.number =? 0) (pick (silent x) (behind m x rest) (ended m x)) (stopped x.number b r o)

-- The joint steps of the events in e; the first argument bounds how many.
unfoldable pub burst_from : ℕ → (first : Bool) → (state register events out : List ℕ) → JointBurst
burst_from zero f b r e o = stopped 0 b r o
burst_from (suc d) f b r e o =
    by_next (next_of f e) (λ k. stopped k b r o)
    (λ m. after_joint b r o m (joint_on b r (take m e) o)
    (burst_from d false (joint_on b r (take m e) o).state (joint_on b r (take m e) o).register (drop m e) (joint_on b r (take m e) o).out))

-- Each event takes a byte at least.
unfoldable pub burst_all : (state register events out : List ℕ) → JointBurst
burst_all b r e o = burst_from (suc (length e)) true b r e o

-- 7, then 8, are tested first.
unfoldable pub joint_burst_on : (state register events out : List ℕ) → JointBurst
joint_burst_on b r e o = pick (joint_number b r o =? 0) (burst_all b r e o) (stopped (joint_number b r o) b r o)

-- What the code leaves: its answer, and the three buffers afterwards.
unfoldable pub left : RegisterBurst → (state register out : List ℕ) → JointBurst
left a b r o = record {
  number = a.number;
  events = a.events;
  bytes = a.bytes;
  store = a.store;
  sent = a.sent;
  greened = a.greened;
  refused = a.refused;
  state = b;
  register = r;
  out = o;
}

-- The code's answer where the buffers are refused.
abbrev pub refused_burst : (number : ℕ) → RegisterBurst
refused_burst k = record { number = k; store = 0; sent = 0; greened = 0; refused = 0; events = 0; bytes = 0 }

-- The code's answer of the burst y behind the burst x.
abbrev pub followed : (x y : RegisterBurst) → RegisterBurst
followed x y = record {
  number = y.number;
  store = y.store;
  sent = y.sent;
  greened = x.greened + y.greened;
  refused = x.refused + y.refused;
  events = x.events + y.events;
  bytes = x.bytes + y.bytes;
}

-- The sums fit.
pub record CanFollow (x y : RegisterBurst) : Type 0 where
  pub greened : x.greened + y.greened < 2 ^ 32
  pub refused : x.refused + y.refused < 2 ^ 32
  pub events : x.events + y.events < 2 ^ 64
  pub bytes : x.bytes + y.bytes < 2 ^ 64

-- Nothing is taken, or the event has stored or put out records.
unfoldable pub is_last : RegisterBurst → Bool
is_last y = y.events =? 0 or not (y.store =? 0 and y.sent =? 0)

-- The answer to the first of the events and the lent buffers afterwards are those of a burst of one event; whether it would stand first.
abbrev pub AnswersFirst : RegisterBurst → (first : Bool) → (state register : Lent) → (events : List ℕ) → (out : Lent) → Type 0
AnswersFirst a f b r e o =
    left a b.exit.now r.exit.now o.exit.now ≡ burst_from 1 f b.entry.now r.entry.now e o.entry.now

-- The same for the first behind the events of x.
abbrev pub AnswersNext : (a x : RegisterBurst) → (state register : Lent) → (events : List ℕ) → (out : Lent) → Type 0
AnswersNext a x b r e o =
    left a b.exit.now r.exit.now o.exit.now
    ≡ burst_from 1 (x.events =? 0) b.entry.now r.entry.now (drop x.bytes e) o.entry.now

-- The answer to the events and the lent buffers afterwards are the burst's.
abbrev pub AnswersAll : RegisterBurst → (state register : Lent) → (events : List ℕ) → (out : Lent) → Type 0
AnswersAll a b r e o =
    left a b.exit.now r.exit.now o.exit.now ≡ joint_burst_on b.entry.now r.entry.now e o.entry.now
