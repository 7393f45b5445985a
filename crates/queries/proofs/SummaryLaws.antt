-- The summary, as the code makes it of the state's numbers.
use Prim.Native.Nat.{ℕ, ◌-◌, ◌≤◌}
use mathlib.Core.Path.{◌≡◌, sym, ap, ◌∙◌}
use mathlib.Core.Bool.{true}
use mathlib.Core.List.{List}
use native.Mathlib.Omega.{arith}
use lib.ListN.{length}
use Rattle.base.proofs.TestLaws.{pick_eq, pick_ne}
use Rattle.record.specs.declared.State.{State}
use Rattle.replication.specs.Machine.Types.{Server}
use Rattle.replication.specs.Machine.Requests.{waiting}
use Rattle.replication.specs.Machine.WellFormed.{queue, well_formed}
use Rattle.image.specs.Layout.{header_size}
use Rattle.image.specs.Header.{shown_log, header_of, header_in, mark_numbers}
use Rattle.record.specs.Values.{last_of}
use Rattle.image.specs.Decode.{decoded, greens_in, white_in}
use Rattle.image.specs.Holding.{Holds, HoldsSome, Computes}
use Rattle.image.specs.Outcome.{image_number}
use Rattle.image.proofs.HeaderLaws.{header_loaded}
use Rattle.image.proofs.InPlace.{holds_header, holds_some}
use Rattle.image.proofs.Counts.{queue_parts}
use Rattle.image.proofs.Unsent.{sent_within}
use Rattle.image.proofs.Refusals.{whole_holds}
use Rattle.queue.specs.Queue.{QueueIn}
use Rattle.queue.proofs.ReadLaws.{holds_queue}
use Rattle.queries.specs.declared.Summary.{Summary}
use Rattle.queries.specs.Queries.{states_in_of, resent_in_of, resent_planned_of, cpcs_in_of, summary_of, no_summary, summary_on}
use Rattle.refusals.specs.declared.Refusal.{Refusal}
use Rattle.refusals.specs.declared.Refusal.TheVariants.{BadRecord, OutOfRange, QuotaUsed, NotNow, NotFromHere, ShortBuffer, BadState}
use Rattle.refusals.specs.Numbers.{refusal_number}

abbrev made : State → (green white red unsent states resent planned cpcs : ℕ) → Summary
made h green white red unsent states resent planned cpcs = record {
  number = 0;
  servers = h.servers;
  quota = h.quota;
  me = h.me;
  state = h.mode;
  configured = h.configuration_status;
  configuration_id = h.configuration_id;
  configuration_set = h.configuration_set;
  transitional = h.transitional_status;
  transitional_set = h.transitional_set;
  green = green;
  white = white;
  red = red;
  numbered = h.numbered;
  on_own_list = h.own_count;
  unsent = unsent;
  primary_index = h.last.index.0;
  primary_attempt = h.last.attempt.0;
  primary_set = h.last.set;
  attempt = h.attempt.0;
  marked = h.mark.status;
  states_in = states;
  resent_in = resent;
  resent_planned = planned;
  cpcs_in = cpcs;
}

pub summary_made : (h : State) (green white unsent states resent planned cpcs : ℕ)
    → ((s : Server) → well_formed s ≡ true → h ≡ header_of s → unsent ≡ length (waiting s.log))
    → ((s : Server) → h ≡ header_of s → states ≡ states_in_of s)
    → ((s : Server) → h ≡ header_of s → resent ≡ resent_in_of s)
    → ((s : Server) → h ≡ header_of s → cpcs ≡ cpcs_in_of s)
    → (s : Server) → well_formed s ≡ true → h ≡ header_of s → green ≡ length s.log.green → white ≡ s.white → planned ≡ resent_planned_of s
    → made h green white (h.queue_length - h.green_count) unsent states resent planned cpcs ≡ summary_of s
unfolding summary_of header_of last_of mark_numbers
summary_made h green white unsent states resent planned cpcs f g i j s ok e l w k =
    let red : length (queue (shown_log s)) - length (shown_log s).green ≡ length s.log.red = omega (arith, queue_parts (shown_log s)) in
    ap (λ (x : State). made x green white (x.queue_length - x.green_count) unsent states resent planned cpcs) e
    ∙ (λ z. made (header_of s) (l z) (w z) (red z) (f s ok e z) (g s e z) (i s e z) (k z) (j s e z))

-- A refusal's number is not 0.
pub above_zero : (r : Refusal) → refusal_number r ≡ 0 → ⊥
above_zero BadRecord e = omega (arith, e)
above_zero OutOfRange e = omega (arith, e)
above_zero QuotaUsed e = omega (arith, e)
above_zero NotNow e = omega (arith, e)
above_zero NotFromHere e = omega (arith, e)
above_zero ShortBuffer e = omega (arith, e)
above_zero BadState e = omega (arith, e)

module _ (b : List ℕ) (n : ℕ) (e : n ≡ image_number b) where
  pub summary_refused : (r : Summary) → (n ≡ 0 → ⊥) → r ≡ no_summary n → r ≡ summary_on b
  unfolding summary_on
  summary_refused r h g = pick_ne (image_number b) 0 r _ _ (λ z. h (e ∙ z)) (g ∙ ap no_summary e)

  module _ (z : n ≡ 0) where
    read : Holds (decoded b) b
    read = whole_holds b (sym e ∙ z)

    pub summary_some : HoldsSome b
    summary_some = holds_some (decoded b) b read

    pub summary_queue : QueueIn b
    summary_queue = holds_queue (decoded b) b read

    pub summary_header : header_size ≤ length b
    summary_header = holds_header (decoded b) b read

    module _ (h : State) (l : h ≡ header_in b) where
      numbers : h ≡ header_of (decoded b)
      numbers = l ∙ header_loaded (decoded b) b read

      pub summary_sent : h.sent ≤ h.numbered
      summary_sent = sent_within h (decoded b) read.formed numbers

      pub summary_counts : h.green_count ≤ h.queue_length
      unfolding header_of
      summary_counts =
          omega (arith, ap (λ (x : State). x.green_count) numbers, ap (λ (x : State). x.queue_length) numbers, queue_parts (shown_log (decoded b)))

      pub summary_read : (g w p : ℕ) (r : Summary) → g ≡ length (greens_in b) → w ≡ white_in b → Computes resent_planned_of b p
          → ((s : Server) → well_formed s ≡ true → h ≡ header_of s → g ≡ length s.log.green → w ≡ s.white → p ≡ resent_planned_of s → r ≡ summary_of s)
          → r ≡ summary_on b
      unfolding summary_on greens_in white_in
      summary_read g w p r c d f k =
          pick_eq (image_number b) 0 r _ _ (sym e ∙ z) (k (decoded b) read.formed numbers c d (f (decoded b) read))
