-- What the exported functions answer: numbers, and the bytes of both buffers. Document 01, 'Returned numbers'.
use Rattle.std.specs.Prelude.{ℕ, Bool, true, false, List, length}
use Rattle.std.proofs.Math.Option.{Option, none, some}
use Rattle.base.specs.Tests.{◌or◌, ◌<?◌, pick}
use Rattle.base.specs.Bytes.{joined, over}
use Rattle.base.specs.Refusals.{out_of_range_of, short_buffer, bad_state}
use Rattle.format.specs.Range.{sizes_ok}
use Rattle.format.specs.Types.{Record, Reading, says}
use Rattle.format.specs.Read.{read}
use Rattle.replication.specs.Machine.Types.{Server, Outcome, refused, taken, start, context_of, with_log, with_white}
use Rattle.replication.specs.Machine.Rules.{Rule, rule_for}
use Rattle.replication.specs.Machine.White.{met_log, took_white}
use Rattle.replication.specs.Machine.Step.{step}
use Rattle.image.specs.declared.Lengths.{Lengths}
use Rattle.image.specs.Layout.{state_length, out_length, least_state_length, least_out_length}
use Rattle.image.specs.Image.{image}
use Rattle.image.specs.Decode.{servers_in, quota_in, reads, read_image}

-- The number returned, the store word (1: store first), how many bytes of records there are, and both buffers afterwards.
pub record Result : Type 0 where
  pub number : ℕ
  pub store : ℕ
  pub sent : ℕ
  pub state : List ℕ
  pub out : List ℕ

-- "all as before"
unfoldable pub refusal : ℕ → List ℕ → List ℕ → Result
refusal k b o = record { number = k; store = 0; sent = 0; state = b; out = o }

unfoldable pub word : Bool → ℕ
word true = 1
word false = 0

-- "a buffer is shorter than its formula; with n or q in the state out of range, shorter than the formula for n 2 and q 1": the state's ..
unfoldable pub state_short : List ℕ → Bool
state_short b =
    pick (sizes_ok (servers_in b) (quota_in b)) (length b <? state_length (servers_in b) (quota_in b)) (length b <? least_state_length)

-- .. and the outgoing one.
unfoldable pub out_short : List ℕ → List ℕ → Bool
out_short b o = pick (sizes_ok (servers_in b) (quota_in b)) (length o <? out_length (servers_in b) (quota_in b)) (length o <? least_out_length)

unfoldable pub too_short : List ℕ → List ℕ → Bool
too_short b o = state_short b or out_short b o

-- K6: what the rule k at s, with t after it, leaves in the buffer b: one over the other the images of the state that its action meets, in Un after
-- Install; of that with the white length that it takes; of t with that white length; and of t. A slot that is freed keeps what it held.
unfoldable pub images_by : Option Rule → Server → Server → List ℕ → List ℕ
images_by none s t b = image t b
images_by (some k) s t b =
    image t (image (with_white (took_white k s) t) (image (with_white (took_white k s) (with_log (met_log k s) s)) (image (with_log (met_log k s) s) b)))

unfoldable pub images_on : Server → Reading Record → Server → List ℕ → List ℕ
images_on s (says r) t b = images_by (rule_for s.membership.mode r) s t b
images_on s (Reading.refused k) t b = image t b

unfoldable pub image_after : Server → List ℕ → Server → List ℕ → List ℕ
image_after s e t b = images_on s (read (context_of s) e) t b

-- "new state, records, store word; bytes past either unchanged"
unfoldable pub result_of : (Server → List ℕ → List ℕ) → Outcome (List ℕ) → List ℕ → List ℕ → Result
result_of f (refused k) b o = refusal k b o
result_of f (taken t r w g) b o = record { number = 0; store = word w; sent = length (joined r); state = f t b; out = over (joined r) o }

unfoldable pub step_from : Option Server → List ℕ → List ℕ → List ℕ → Result
step_from none b e o = refusal bad_state b o
step_from (some s) b e o = result_of (image_after s e) (step s e) b o

-- The step over the buffers: 7, then 8, then the machine's step.
unfoldable pub step_on : (state event out : List ℕ) → Result
step_on b e o = pick (too_short b o) (refusal short_buffer b o) (step_from (read_image b) b e o)

-- The state's own part of 7 and 8: 0 exactly when an image reads.
unfoldable pub state_number : List ℕ → List ℕ → ℕ
state_number b o = pick (too_short b o) short_buffer (pick (reads b) 0 bad_state)

-- The same of the state's buffer alone.
unfoldable pub image_number : List ℕ → ℕ
image_number b = pick (state_short b) short_buffer (pick (reads b) 0 bad_state)

-- ---- start and lengths

pub record Started : Type 0 where
  pub number : ℕ
  pub state : List ℕ

-- A number returned, and the buffer left.
unfoldable pub started : ℕ → List ℕ → Started
started k b = record { number = k; state = b }

-- "a start with one out of range gets 2"; 7 before it, by the formula for n 2 and q 1 where n or q is out of range.
unfoldable pub start_on : (n q me : ℕ) → List ℕ → Started
start_on n q i b =
    pick (sizes_ok n q)
    (pick (length b <? state_length n q) (started short_buffer b) (pick (i <? n) (started 0 (image (start n q i) b)) (started out_of_range_of b)))
    (pick (length b <? least_state_length) (started short_buffer b) (started out_of_range_of b))

-- Outside the range: 2 and zeros.
unfoldable pub lengths_of : (n q : ℕ) → Lengths
lengths_of n q =
    pick (sizes_ok n q) (record { number = 0; state = state_length n q; out = out_length n q }) (record { number = out_of_range_of; state = 0; out = 0 })
