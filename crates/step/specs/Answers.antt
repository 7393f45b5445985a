-- What the code of a step answers, and what it may rely on.
use Rattle.std.specs.Prelude.{ℕ, ◌≤◌, ◌<◌, ◌≡◌, true, List, Result as Fallible, Ok, Err}
use Rattle.std.specs.Int.{from_bool}
use Rattle.std.proofs.Math.Option.{Option, none, some}
use Rattle.base.specs.Refusals.{quota_used, not_now, not_from_here}
use Rattle.base.specs.Tests.{◌or◌, pick}
use Rattle.format.specs.Limits.{most_index_limit}
use Rattle.format.specs.Types.{State, Record, state}
use Rattle.format.specs.Range.{fields_ok}
use Rattle.format.specs.Write.{write}
use Rattle.replication.specs.Machine.Types.{Exchange_states, Un, Server, Outcome, refused, in_mode, context_of}
use Rattle.replication.specs.Machine.Rules.{Rule, rule_for, possible, from_member, is_ignored, within_quota}
use Rattle.replication.specs.Machine.Step.{in_bytes, with_cpc, all_cpcs_in, apply}
use Rattle.replication.specs.Machine.WellFormedFacts.{Configured}
use Rattle.replication.specs.Laws.RuleFits.{StateCame}
use Rattle.record.specs.declared.State.{State as Numbers}
use Rattle.image.specs.Header.{header_of}
use Rattle.image.specs.Image.{image}
use Rattle.image.specs.Outcome.{Result, result_of}
use Rattle.image.specs.Holding.{Holds}
use Rattle.base.specs.Lent.{Lent}
use Rattle.refusals.specs.declared.Refusal.{Refusal}
use Rattle.refusals.specs.Numbers.{refusal_number}
use Rattle.step.specs.declared.Answer.{Answer}
use Rattle.step.specs.declared.Taken.{Taken}

-- An answer, and both buffers afterwards.
unfoldable pub answered : Answer → List ℕ → List ℕ → Result
answered a b o = record { number = a.number; store = a.store; sent = a.sent; state = b; out = o }

-- An outcome of the machine over both buffers.
unfoldable pub outcome_on : Outcome Record → List ℕ → List ℕ → Result
outcome_on x b o = result_of image (in_bytes x) b o

-- ---- the answer to a record

-- Rows 5, 6 and 3, as in the machine's `apply_rule`; where none applies, what f makes of the rule.
unfoldable pub by_rows : (Rule → Server → Outcome Record) → Option Rule → Server → Record → Outcome Record
by_rows f none s r = refused not_now
by_rows f (some k) s r =
    pick (possible s r)
    (pick (is_ignored k or from_member s.membership r) (pick (within_quota s r) (f k s) (refused quota_used)) (refused not_from_here))
    (refused not_now)

-- The rule alone, with neither sieve nor raise: for a record that carries no action this is all but the raise.
unfoldable pub ruled : Server → Record → Outcome Record
ruled s r = by_rows apply (rule_for s.membership.mode r) s r

-- ---- what the contracts say

-- From buffers b and o, the first of which holds s, the answer and both buffers afterwards are what the outcome of s makes of them ..
abbrev pub AnswersAs : (Server → Outcome Record) → Answer → (b b' o o' : List ℕ) → Type 0
AnswersAs f r b b' o o' = (s : Server) → Holds s b → answered r b' o' ≡ outcome_on (f s) b o

-- .. and where the outgoing buffer is not lent, whatever that holds.
abbrev pub AnswersAlone : (Server → Outcome Record) → Answer → (b b' : List ℕ) → Type 0
AnswersAlone f r b b' = (s : Server) (o : List ℕ) → Holds s b → answered r b' o ≡ outcome_on (f s) b o

-- The same of the lent buffers themselves.
abbrev pub AnswersBy : (Server → Outcome Record) → Answer → (state out : Lent) → Type 0
AnswersBy f r b o = AnswersAs f r b.entry.now b.exit.now o.entry.now o.exit.now

-- The answer to the record x, which carries no action.
abbrev pub AnswersTo : Record → Answer → (state out : Lent) → Type 0
AnswersTo x r b o = AnswersBy (λ s. ruled s x) r b o

-- .. and where the outgoing buffer is not lent.
abbrev pub AnswersToAlone : Record → Answer → (state : Lent) → Type 0
AnswersToAlone x r b = AnswersAlone (λ s. ruled s x) r b.entry.now b.exit.now

-- The outcome of a state t that the server s has become in the same event.
abbrev pub AnswersFor : (Server → Server → Outcome Record) → Answer → (state out : Lent) → Type 0
AnswersFor f r b o =
    (s t : Server) → Holds t b.entry.now
    → answered r b.exit.now o.exit.now ≡ outcome_on (f s t) b.entry.now o.entry.now

-- A refusal leaves both buffers as they are.
abbrev pub refused_with : ℕ → Answer
refused_with k = record { number = k; store = 0; sent = 0 }

-- What C is answered where an event is taken, ..
abbrev pub taken_answer : Taken → Answer
taken_answer t = record { number = 0; store = from_bool t.store; sent = t.sent }

-- .. and where it may be refused.
abbrev pub answer_of : Fallible Taken Refusal → Answer
answer_of (Ok t) = taken_answer t
answer_of (Err r) = refused_with (refusal_number r)

-- Nothing stored, nothing sent.
abbrev pub quietly : Answer
quietly = record { number = 0; store = 0; sent = 0 }

-- So many bytes sent, with the state stored first.
abbrev pub stored_first : ℕ → Answer
stored_first m = record { number = 0; store = 1; sent = m }

-- So many bytes sent, with nothing stored.
abbrev pub sent_only : ℕ → Answer
sent_only m = record { number = 0; store = 0; sent = m }

-- The bytes e are those of a State that the server s collects from its sender k.
pub record Came (k : ℕ) (e : List ℕ) (s : Server) : Type 0 where
  pub sent : State
  pub written : write (state sent) ≡ e
  pub sender : sent.sender ≡ k
  pub came : StateCame s sent
  pub mode : s.membership.mode ≡ Exchange_states

-- The CPC of k in No: "all CPCs in, to Un".
unfoldable pub with_late_cpc : ℕ → Server → Server
with_late_cpc k s = pick (all_cpcs_in (with_cpc k s)) (in_mode Un (with_cpc k s)) (with_cpc k s)

-- k is the number of Reg_prim or Trans_prim, in which s may be after Install: it has a configuration, and its primary index can rise.
pub record Installs (k : ℕ) (s : Server) : Type 0 where
  pub from : 1 ≤ k
  pub to : k ≤ 2
  pub configured : Configured s
  pub index : s.votes.last.index < most_index_limit

-- h are the numbers of the state s, and the record r is in range in it.
pub record InForce (h : Numbers) (r : Record) (s : Server) : Type 0 where
  pub numbers : h ≡ header_of s
  pub range : fields_ok (context_of s) r ≡ true

-- The same of a State of server k in the configuration `id` whose bytes are e.
pub record StateInForce (h : Numbers) (k id : ℕ) (e : List ℕ) (s : Server) : Type 0 where
  pub sent : State
  pub written : write (state sent) ≡ e
  pub sender : sent.sender ≡ k
  pub configuration : sent.configuration ≡ id
  pub force : InForce h (state sent) s
