-- What the code of the joint step answers.
use Rattle.std.specs.Prelude.{ℕ, ◌≡◌, List, Result, Ok, Err}
use Rattle.base.specs.Lent.{Lent}
use Rattle.refusals.specs.declared.Refusal.{Refusal}
use Rattle.refusals.specs.Numbers.{refusal_number}
use Rattle.register_runs.specs.Joint.{Joint, joint_number, joint_on}
use Rattle.register_step.specs.declared.RegisterAnswer.{RegisterAnswer}
use Rattle.std.specs.Borrow.{MutBor}

-- An answer, and the three buffers afterwards.
unfoldable pub joined : RegisterAnswer → (state register out : List ℕ) → Joint
joined a b r o = record {
  number = a.number;
  store = a.store;
  sent = a.sent;
  greened = a.greened;
  refused = a.refused;
  state = b;
  register = r;
  out = o;
}

-- "no refusal changes anything lent"
abbrev pub refused_with : (number : ℕ) → RegisterAnswer
refused_with k = record { number = k; store = 0; sent = 0; greened = 0; refused = 0 }

-- What C is answered where the event may be refused.
abbrev pub answer_of : Result RegisterAnswer Refusal → RegisterAnswer
answer_of (Ok a) = a
answer_of (Err r) = refused_with (refusal_number r)

-- The answer to the event and the lent buffers afterwards are the joint step's.
abbrev pub AnswersJointly : RegisterAnswer → (state register : Lent) → (event : List ℕ) → (out : Lent) → Type 0
AnswersJointly a b r e o =
    joined a b.exit.now r.exit.now o.exit.now ≡ joint_on b.entry.now r.entry.now e o.entry.now

-- The three buffers as they are lent have the number 0.
abbrev pub AllRead : (state register out : MutBor (List ℕ)) → Type 0
AllRead b r o = joint_number b.now r.now o.now ≡ 0
