-- K6: an event in two stages. First everything but the raise: rows 5, 6 and 3, the white length that the action takes, the sieve and the rule; then
-- the raise.
use Rattle.std.specs.Prelude.{ℕ, ◌≡◌, Bool, true, false, not, List, Result as Fallible, Ok, Err}
use Rattle.std.proofs.Math.Option.{Option, none, some}
use Rattle.base.specs.Lent.{Lent}
use Rattle.base.specs.Tests.{◌and◌}
use Rattle.format.specs.Types.{Action, Record, Reading, says}
use Rattle.format.specs.Read.{read}
use Rattle.record.specs.Values.{action_of}
use Rattle.record.specs.declared.ActionHead.{ActionHead}
use Rattle.replication.specs.Machine.Types.{Server, Outcome, refused, taken, context_of, with_log, with_white}
use Rattle.replication.specs.Machine.Rules.{Rule, rule_for, is_ignored}
use Rattle.replication.specs.Machine.White.{met_log, took_white, full, sifted, sieved}
use Rattle.replication.specs.Machine.Step.{apply, in_bytes}
use Rattle.image.specs.Image.{image}
use Rattle.image.specs.Holding.{Holds, Becomes}
use Rattle.image.specs.Outcome.{Result, refusal, result_of}
use Rattle.step.specs.declared.Answer.{Answer}
use Rattle.step.specs.declared.Act.{Act}
use Rattle.step.specs.Answers.{answered, by_rows, refused_with, taken_answer}
use Rattle.refusals.specs.declared.Refusal.{Refusal}
use Rattle.refusals.specs.Numbers.{refusal_number}

-- ---- the first stage

-- The rule's effect behind the sieve.
unfoldable pub sieving : Rule → Server → Outcome Record
sieving k s = apply (sieved (full k s) k) s

-- As the machine's `answer`, without the raise.
unfoldable pub unraised : Server → Record → Outcome Record
unraised s r = by_rows sieving (rule_for s.membership.mode r) s r

-- What the rule k at s, with t after it, leaves in the buffer b before the raise: `images_by` without its last image.
unfoldable pub core_images : Rule → Server → Server → List ℕ → List ℕ
core_images k s t b =
    image (with_white (took_white k s) t) (image (with_white (took_white k s) (with_log (met_log k s) s)) (image (with_log (met_log k s) s) b))

unfoldable pub images_before : Option Rule → Server → Server → List ℕ → List ℕ
images_before none s t b = image t b
images_before (some k) s t b = core_images k s t b

-- Its answer over the buffers b and o.
unfoldable pub unraised_on : Server → Record → List ℕ → List ℕ → Result
unraised_on s r b o = result_of (images_before (rule_for s.membership.mode r) s) (in_bytes (unraised s r)) b o

unfoldable pub unraised_by : Server → Reading Record → List ℕ → List ℕ → Result
unraised_by s (says r) b o = unraised_on s r b o
unraised_by s (Reading.refused k) b o = refusal k b o

-- .. of the event e.
unfoldable pub unraised_step : Server → (event state out : List ℕ) → Result
unraised_step s e b o = unraised_by s (read (context_of s) e) b o

-- ---- the second stage

unfoldable pub is_taken : Outcome Record → Bool
is_taken (refused k) = false
is_taken (taken t r b g) = true

unfoldable pub ignored_by : Option Rule → Bool
ignored_by none = false
ignored_by (some k) = is_ignored k

-- The event is taken and not ignored.
unfoldable pub raises_by : Server → Reading Record → Bool
raises_by s (says r) = not (ignored_by (rule_for s.membership.mode r)) and is_taken (unraised s r)
raises_by s (Reading.refused k) = false

unfoldable pub raises : Server → (event : List ℕ) → Bool
raises s e = raises_by s (read (context_of s) e)

-- ---- what the contracts say

-- The first stage of the record x ..
abbrev pub Acts : Record → Answer → (state out : Lent) → Type 0
Acts x r b o =
    (s : Server) → Holds s b.entry.now
    → answered r b.exit.now o.exit.now ≡ unraised_on s x b.entry.now o.entry.now

-- .. and where the outgoing buffer is not lent.
abbrev pub ActsAlone : Record → Answer → (state : Lent) → Type 0
ActsAlone x r b =
    (s : Server) (o : List ℕ) → Holds s b.entry.now → answered r b.exit.now o ≡ unraised_on s x b.entry.now o

-- Before the rule f of an action with this head: its white length is taken, and r is the head of what the sieve lets through.
abbrev pub Sifts : (Action → Rule) → ActionHead → (r : ActionHead) → (b b' : List ℕ) → Type 0
Sifts f h r b b' =
    (p : List ℕ)
    → Becomes (λ s. with_white (took_white (f (action_of h p)) s) s) b b'
    × ((s : Server) → Holds s b → action_of r p ≡ sifted (full (f (action_of h p)) s) (action_of h p))

-- What C is answered where the first stage may be refused, and whether the raise is due then.
abbrev pub act_answer : Fallible Act Refusal → Answer
act_answer (Ok a) = taken_answer a.taken
act_answer (Err r) = refused_with (refusal_number r)

abbrev pub act_raises : Fallible Act Refusal → Bool
act_raises (Ok a) = a.raises
act_raises (Err r) = false

-- The first stage of an event whose bytes are e.
abbrev pub ActsOn : (e : List ℕ) → Fallible Act Refusal → (state out : Lent) → Type 0
ActsOn e a b o =
    (s : Server) → Holds s b.entry.now
    → (answered (act_answer a) b.exit.now o.exit.now ≡ unraised_step s e b.entry.now o.entry.now)
    × (act_raises a ≡ raises s e)
